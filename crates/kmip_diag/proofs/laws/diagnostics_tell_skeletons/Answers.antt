use Rattle.kmip_diag.proofs.Ranges.{skeleton_ranges}
use Rattle.kmip_diag.proofs.SameDiagnostics.{same_diagnostics}
use Rattle.kmip_diag.proofs.laws.diagnostics_tell_skeletons.Goals as goal

pub returns-clause-trees : goal.returns-clause-trees
returns-clause-trees c = λ p t u b d g h q r. same_diagnostics p t u b d (skeleton_ranges t g) (skeleton_ranges u h) q r

pub returns-clause-bytes : goal.returns-clause-bytes
returns-clause-bytes c = λ p t u b d g h q r.
    same_diagnostics p t u b d (skeleton_ranges t (c.parsed_ranges.ensures t 1 b g q))
    (skeleton_ranges u (c.parsed_ranges.ensures u 1 d h r)) q r
