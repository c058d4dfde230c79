-- What is read of a text: its one block (RFC 7468, 2 and 3), or why there is none.
use Rattle.std.specs.Prelude.{◌≡◌, ℕ, Bool, true, false, ◌&&◌, ◌||◌, List, [], ◌∷◌, ◌++◌, Option, Some, None, Result, Ok, Err, codes, bytes_eq, if◌then◌else◌, is_some}
use Rattle.std.specs.Option.{option_or}
use Rattle.std.specs.List.{concat}
use Rattle.base64.specs.GeneralPurpose.{encode_of, decode_of, IsBytes}
use Rattle.base64.specs.Engines.{standard}
use Rattle.base64.specs.declared.decode.DecodeError.{DecodeError}
use Rattle.kmip_pem.specs.declared.labels.Label.{Label}
use Rattle.kmip_pem.specs.declared.refusal.NoPem.{NoPem}
use Rattle.kmip_pem.specs.declared.refusal.NoPem.TheVariants.{NoBlock, Several, Encrypted, OtherLabel, NoEnd, NoBase64}
use Rattle.kmip_pem.specs.Lines.{lines_in}
use Rattle.kmip_pem.specs.Labels.{label_text, label_named, begin_line, end_line, begun_by, ends, is_of_parameters}

-- ---- blocks

-- a block that begins: its label, and the lines behind the first
pub record Begun : Type 0 where
  pub label : List ℕ
  pub behind : List (List ℕ)

-- whether lines end the block of this label before another begins
abbrev pub is_closed : List ℕ → List (List ℕ) → Bool
is_closed label [] = false
is_closed label (line ∷ lines) =
    if ends label line then true
    else if is_some (begun_by line) then false
    else is_closed label lines

-- a whole block of parameters is set aside
abbrev pub is_aside : List ℕ → List (List ℕ) → Bool
is_aside label behind = is_of_parameters label && is_closed label behind

abbrev pub begun_unless_aside : Option (List ℕ) → List (List ℕ) → Option Begun
begun_unless_aside None behind = None
begun_unless_aside (Some label) behind =
    if is_aside label behind then None else Some (record { label = label; behind = behind })

-- the first block that begins in lines, but for those set aside
abbrev pub first_begun : List (List ℕ) → Option Begun
first_begun [] = None
first_begun (line ∷ lines) =
    option_or (begun_unless_aside (begun_by line) lines) (first_begun lines)

-- ---- the relation

-- a text has one block, of this label and these bytes
pub record IsPem (text : List ℕ) (label : Label) (bytes : List ℕ) : Type 0 where
  pub before : List (List ℕ)
  pub body : List (List ℕ)
  pub after : List (List ℕ)
  pub whole : lines_in text ≡ before
      ++ (begin_line (label_text label) ∷ (body ++ (end_line (label_text label) ∷ after)))
  pub first : first_begun before ≡ None
  pub last : first_begun after ≡ None
  pub base64 : concat body ≡ encode_of standard bytes
  pub octets : IsBytes bytes

-- ---- the same as an answer, which has a reason where there is none

pub record Pem : Type 0 where
  pub label : Label
  pub bytes : List ℕ

-- a line before the digits behind it, if there are any
unfoldable pub before_digits : List ℕ → Option (List ℕ) → Option (List ℕ)
before_digits line None = None
before_digits line (Some digits) = Some (line ++ digits)

-- the digits of a block to its end; none where it has no end
abbrev pub digits_in : List ℕ → List (List ℕ) → Option (List ℕ)
digits_in label [] = None
digits_in label (line ∷ lines) =
    if ends label line then Some [] else before_digits line (digits_in label lines)

abbrev pub decoded_by : Label → Result (List ℕ) DecodeError → Result Pem NoPem
decoded_by label (Err e) = Err NoBase64
decoded_by label (Ok bytes) = Ok (record { label = label; bytes = bytes })

abbrev pub decoded : Label → List ℕ → Result Pem NoPem
decoded label digits = decoded_by label (decode_of standard digits)

abbrev pub read_digits : Label → Option (List ℕ) → Result Pem NoPem
read_digits label None = Err NoEnd
read_digits label (Some digits) = decoded label digits

-- PKCS#8 that is encrypted (RFC 7468, 11), and any key whose first header says so (RFC 1421, 4.6.1.1)
abbrev pub has_header : List (List ℕ) → Bool
has_header [] = false
has_header (line ∷ lines) = bytes_eq line (codes "Proc-Type: 4,ENCRYPTED")

abbrev pub is_encrypted : Begun → Bool
is_encrypted block =
    bytes_eq block.label (codes "ENCRYPTED PRIVATE KEY") || has_header block.behind

abbrev pub read_labelled : Option Label → Begun → Result Pem NoPem
read_labelled None block = Err OtherLabel
read_labelled (Some label) block = read_digits label (digits_in block.label block.behind)

abbrev pub read_block : Begun → Result Pem NoPem
read_block block =
    if is_encrypted block then Err Encrypted else read_labelled (label_named block.label) block

-- a block, and the next one that begins behind it
abbrev pub read_alone : Begun → Option Begun → Result Pem NoPem
read_alone block (Some next) = Err Several
read_alone block None = read_block block

abbrev pub read_first : Option Begun → Result Pem NoPem
read_first None = Err NoBlock
read_first (Some block) = read_alone block (first_begun block.behind)

abbrev pub pem_in : List ℕ → Result Pem NoPem
pem_in text = read_first (first_begun (lines_in text))
