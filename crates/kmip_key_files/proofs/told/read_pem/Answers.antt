use Rattle.std.proofs.Common.{ℕ, List, Result, Ok, sym, ap, ◌∙◌}
use Rattle.kmip_pem.specs.declared.labels.Label.{Label}
use Rattle.kmip_pem.specs.declared.refusal.NoPem.{NoPem}
use Rattle.kmip_pem.specs.Pem.{Pem}
use Rattle.kmip_key_files.proofs.Telling.{label_kept}
use Rattle.kmip_key_files.proofs.told.read_pem.Goals as goal

abbrev read_as : List ℕ → Label → Result Pem NoPem
read_as bytes label = Ok (record { label = label; bytes = bytes })

pub returns-in-Ok-told_of-clause-bytes : goal.returns-in-Ok-told_of-clause-bytes
returns-in-Ok-told_of-clause-bytes c =
    let kept = label_kept _ _ c.in-Ok-told_of.told (sym c.in-Ok-told_of.ensures) in
    c.in-Ok.ensures.read ∙ ap (read_as c.in-Ok.pem.bytes) (sym kept)
