-- Bytes that are no dash and no white space, as digits are: a line of them neither begins nor ends a block,
-- and is no header.
use Rattle.std.proofs.Common.{◌≡◌, ℕ, zero, suc, ◌+◌, ◌*◌, ◌/◌, ◌%◌, ◌==◌, Bool, true, false, not, ◌&&◌, List, [], ◌∷◌, length, replicate, slice_index, None, codes, refl, sym, ap, ◌∙◌}
use Rattle.std.specs.Prelude.{bytes_eq}
use Rattle.std.specs.List.{list_all}
use Rattle.std.proofs.lemmas.Bool.{and_parts, and_from, eqb-true}
use Rattle.base64.specs.Rfc4648.{encode_symbols, padding_len}
use Rattle.base64.specs.GeneralPurpose.{encode_of}
use Rattle.base64.specs.Engines.{standard}
use Rattle.kmip_pem.specs.Lines.{is_white, is_line_end}
use Rattle.kmip_pem.specs.Labels.{begun_by, ended_by, ends}
use Rattle.kmip_pem.proofs.Tests.{false_by, not_so, all_append}
use Rattle.kmip_pem.proofs.Marks.{same_bytes, same_label}

abbrev pub is_plain : ℕ → Bool
is_plain a = not (45 == a) && not (is_white a)

pub no_dash : (a : ℕ) → is_plain a ≡ true → (45 == a) ≡ false
no_dash a h = not_so (45 == a) (and_parts (not (45 == a)) (not (is_white a)) h).0

pub no_white : (a : ℕ) → is_plain a ≡ true → is_white a ≡ false
no_white a h = not_so (is_white a) (and_parts (not (45 == a)) (not (is_white a)) h).1

pub plain_begins_none : (line : List ℕ) → list_all is_plain line ≡ true → begun_by line ≡ None
plain_begins_none [] h = refl
plain_begins_none (a ∷ line) h =
    let d = no_dash a (and_parts (is_plain a) (list_all is_plain line) h).0 in
    rw d refl

ended_none : (line : List ℕ) → list_all is_plain line ≡ true → ended_by line ≡ None
ended_none [] h = refl
ended_none (a ∷ line) h =
    let d = no_dash a (and_parts (is_plain a) (list_all is_plain line) h).0 in
    rw d refl

pub plain_ends_none : (label line : List ℕ) → list_all is_plain line ≡ true → ends label line ≡ false
plain_ends_none label line h = ap (same_label label) (ended_none line h)

abbrev header : List ℕ
header = codes "Proc-Type: 4,ENCRYPTED"

pub plain_no_header : (line : List ℕ) → list_all is_plain line ≡ true → bytes_eq line (codes "Proc-Type: 4,ENCRYPTED") ≡ false
plain_no_header line h =
    false_by (bytes_eq line header) (λ t.
    let e : line ≡ header = same_bytes line header t in
    let bad : false ≡ true = ap (list_all is_plain) (sym e) ∙ h in
    absurd (cc))

line_end : (a b : ℕ) → is_plain b ≡ false → is_plain a ≡ true → (a == b) ≡ false
line_end a b f h =
    false_by (a == b) (λ t.
    let e : a ≡ b = eqb-true a b t in
    let bad : true ≡ false = sym h ∙ (ap is_plain e ∙ f) in
    absurd (cc))

pub plain_no_end : (a : ℕ) → is_plain a ≡ true → is_line_end a ≡ false
plain_no_end a h =
    let lf = line_end a 10 refl h in
    let cr = line_end a 13 refl h in
    rw (lf, cr) refl

-- ---- base64 is plain

index_plain : (xs : List ℕ) (i : ℕ) → list_all is_plain xs ≡ true → is_plain (slice_index xs i) ≡ true
index_plain [] i h = refl
index_plain (x ∷ xs) zero h = (and_parts (is_plain x) (list_all is_plain xs) h).0
index_plain (x ∷ xs) (suc i) h = index_plain xs i (and_parts (is_plain x) (list_all is_plain xs) h).1

abbrev table : List ℕ
table = standard.encode_table

table_plain : list_all is_plain table ≡ true
table_plain = refl

at_index : (i : ℕ) → is_plain (slice_index table i) ≡ true
at_index i = index_plain table i table_plain

symbol : (i : ℕ) (xs : List ℕ) → list_all is_plain xs ≡ true → list_all is_plain (slice_index table i ∷ xs) ≡ true
symbol i xs h = and_from (is_plain (slice_index table i)) (list_all is_plain xs) (at_index i) h

symbols_plain : (m : List ℕ) → list_all is_plain (encode_symbols table m) ≡ true
unfolding encode_symbols
symbols_plain [] = refl
symbols_plain (a ∷ []) = symbol (a / 4) (slice_index table (a % 4 * 16) ∷ []) (symbol (a % 4 * 16) [] refl)
symbols_plain (a ∷ b ∷ []) =
    let last : List ℕ = slice_index table (b % 16 * 4) ∷ [] in
    symbol (a / 4) (slice_index table (a % 4 * 16 + b / 16) ∷ last)
    (symbol (a % 4 * 16 + b / 16) last (symbol (b % 16 * 4) [] refl))
symbols_plain (a ∷ b ∷ c ∷ rest) =
    let fourth : List ℕ = slice_index table (c % 64) ∷ encode_symbols table rest in
    let third : List ℕ = slice_index table (b % 16 * 4 + c / 64) ∷ fourth in
    symbol (a / 4) (slice_index table (a % 4 * 16 + b / 16) ∷ third)
    (symbol (a % 4 * 16 + b / 16) third
    (symbol (b % 16 * 4 + c / 64) fourth (symbol (c % 64) (encode_symbols table rest) (symbols_plain rest))))

padding_plain : (n : ℕ) → list_all is_plain (replicate n 61) ≡ true
padding_plain zero = refl
padding_plain (suc n) = padding_plain n

pub encoded_plain : (bytes : List ℕ) → list_all is_plain (encode_of standard bytes) ≡ true
encoded_plain bytes =
    all_append is_plain (encode_symbols table bytes) (replicate (padding_len (length bytes)) 61)
    (symbols_plain bytes) (padding_plain (padding_len (length bytes)))
