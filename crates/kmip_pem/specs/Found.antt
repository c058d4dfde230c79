-- What the code finds, as the definitions have it.
use Rattle.std.specs.Prelude.{◌≡◌, Result, Err}
use Rattle.kmip_pem.specs.declared.blocks.Begun.{Begun as TheBegun}
use Rattle.kmip_pem.specs.declared.reading.Pem.{Pem as ThePem}
use Rattle.kmip_pem.specs.declared.refusal.NoPem.{NoPem}
use Rattle.kmip_pem.specs.declared.refusal.ReadError.{ReadError}
use Rattle.kmip_pem.specs.declared.refusal.ReadError.TheVariants.{NoPem as Refused, OutOfMemory}
use Rattle.kmip_pem.specs.Lines.{lines_in}
use Rattle.kmip_pem.specs.Pem.{Begun, Pem}

abbrev pub begun_view : TheBegun → Begun
begun_view block = record { label = block.label.now; behind = lines_in block.behind.now }

abbrev pub pem_view : ThePem → Pem
pem_view pem = record { label = pem.label; bytes = pem.bytes }

-- an error has the reason that the definitions have; memory may run out at any time
abbrev pub IsFailure : Result Pem NoPem → ReadError → Type 0
IsFailure wanted (Refused reason) = wanted ≡ Err reason
IsFailure wanted OutOfMemory = Unit {0}
