-- What the code finds, as the definitions have it.
use Rattle.std.specs.Prelude.{◌≡◌, Result, Ok, Err}
use Rattle.kmip_der.specs.declared.keys.Known.{Known as TheKnown}
use Rattle.kmip_der.specs.declared.element.Element.{Element as TheElement}
use Rattle.kmip_der.specs.Keys.{Known, known}
use Rattle.kmip_der.specs.Der.{Element}
use Rattle.kmip_key_files.specs.declared.told.Told.{Told}
use Rattle.kmip_key_files.specs.declared.formats.File.{File as TheFile}
use Rattle.kmip_key_files.specs.declared.refusal.NoObject.{NoObject}
use Rattle.kmip_key_files.specs.declared.refusal.ReadError.{ReadError}
use Rattle.kmip_key_files.specs.declared.refusal.ReadError.TheVariants.{NoObject as Unread, OutOfMemory}
use Rattle.kmip_key_files.specs.declared.refusal.NoFile.{NoFile}
use Rattle.kmip_key_files.specs.declared.refusal.WriteError.{WriteError}
use Rattle.kmip_key_files.specs.declared.refusal.WriteError.TheVariants.{NoFile as Unwritten, OutOfMemory as NoMemory}
use Rattle.kmip_key_files.specs.Formats.{File, file}

abbrev pub known_view : TheKnown → Known
known_view k = known k.algorithm k.len

abbrev pub element_view : TheElement → Element
element_view e = record { tag = e.tag; contents = e.contents.now; behind = e.behind.now }

abbrev pub file_view : TheFile → File
file_view x = file x.label x.der

abbrev pub IsFile : Result File NoFile → TheFile → Type 0
IsFile wanted x = wanted ≡ Ok (file_view x)

-- an error has the reason that the definitions have; memory may run out at any time
abbrev pub IsUnread : Result Told NoObject → ReadError → Type 0
IsUnread wanted (Unread why) = wanted ≡ Err why
IsUnread wanted OutOfMemory = Unit {0}

abbrev pub IsUnwritten : Result File NoFile → WriteError → Type 0
IsUnwritten wanted (Unwritten why) = wanted ≡ Err why
IsUnwritten wanted NoMemory = Unit {0}
