use Rattle.kmip_caller.proofs.words.+file_at.Given as goal

abbrev pub decreases-file_at : goal.decreases-file_at
decreases-file_at l = l.at
