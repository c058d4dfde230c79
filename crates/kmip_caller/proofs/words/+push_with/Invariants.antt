use Rattle.kmip_caller.proofs.words.+push_with.Given as goal

abbrev pub decreases-push_with : goal.decreases-push_with
decreases-push_with l = l.at
