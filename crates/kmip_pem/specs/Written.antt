-- The text of a block: base64 in lines of 64 digits (RFC 7468, 2).
use Rattle.std.specs.Prelude.{ℕ, zero, suc, List, [], ◌∷◌, ◌++◌, length, take, drop}
use Rattle.base64.specs.GeneralPurpose.{encode_of}
use Rattle.base64.specs.Engines.{standard}
use Rattle.kmip_pem.specs.declared.labels.Label.{Label}
use Rattle.kmip_pem.specs.Lines.{text_of}
use Rattle.kmip_pem.specs.Labels.{label_text, begin_line, end_line}

-- digits in at most so many lines
abbrev pub cut_at_64 : ℕ → List ℕ → List (List ℕ)
cut_at_64 zero digits = []
cut_at_64 (suc n) [] = []
cut_at_64 (suc n) (a ∷ digits) =
    take 64 (a ∷ digits) ∷ cut_at_64 n (drop 64 (a ∷ digits))

abbrev pub lines_of_64 : List ℕ → List (List ℕ)
lines_of_64 digits = cut_at_64 (length digits) digits

-- the text of these
unfoldable pub body_text : List ℕ → List ℕ
body_text digits = text_of (lines_of_64 digits)

abbrev pub pem_lines : Label → List ℕ → List (List ℕ)
pem_lines label bytes =
    begin_line (label_text label)
    ∷ (lines_of_64 (encode_of standard bytes) ++ (end_line (label_text label) ∷ []))

abbrev pub pem_text : Label → List ℕ → List ℕ
pem_text label bytes = text_of (pem_lines label bytes)
