-- The names of an enumeration are counted and told a line after the other.
use Rattle.std.proofs.Common.{◌≡◌, ℕ, ◌<◌, ◌≤◌, ◌+◌, Bool, true, false, cond, List, [], ◌∷◌, ◌++◌, length, drop, filter, refl, sym, ap, ◌∙◌, append_assoc, append-nil, arith}
use Rattle.std.proofs.lemmas.List.{at_drop_all}
use Rattle.kmip_encodings.specs.Lines.{Line, line_count, lines}
use Rattle.kmip_encodings.specs.Names.{line_at}
use Rattle.kmip_encodings.specs.Expected.{is_written, written_lines, one_if, listed, entry_if}
use Rattle.kmip_encodings.proofs.TheLines.{count, rest_at}

-- the lines that are written, from an index on
abbrev pub written_from : ℕ → ℕ → List Line
written_from i tag = filter (is_written tag) (drop i lines)

pub all_written : (tag : ℕ) → written_from 0 tag ≡ written_lines tag
unfolding written_lines
all_written tag = refl

length_cons : (b : Bool) (l : Line) (ls : List Line) → length (cond b (l ∷ ls) ls) ≡ one_if b + length ls
length_cons true l ls = omega arith
length_cons false l ls = omega arith

one_at_most : (b : Bool) → one_if b ≤ 1
one_at_most true = omega arith
one_at_most false = omega arith

pub count_more : (i tag n next total : ℕ) → i < line_count
    → next ≡ n + one_if (is_written tag (line_at i)) → n ≤ i
    → n + length (written_from i tag) ≡ total
    → (next ≤ i + 1) × (next + length (written_from (i + 1) tag) ≡ total)
count_more i tag n next total h e low told =
    let here = ap (λ ls. length (filter (is_written tag) ls)) (rest_at i h)
    ∙ length_cons (is_written tag (line_at i)) (line_at i) (written_from (i + 1) tag) in
    (omega (arith, e, low, one_at_most (is_written tag (line_at i))), omega (arith, e, told, here))

pub none_left : (i tag : ℕ) → line_count ≤ i → length (written_from i tag) ≡ 0
none_left i tag h = at_drop_all (λ ls. length (filter (is_written tag) ls)) lines i (omega (arith, count))

listed_cons : (b : Bool) (l : Line) (ls : List Line) → listed (cond b (l ∷ ls) ls) ≡ entry_if b l ++ listed ls
listed_cons true l ls = refl
listed_cons false l ls = refl

listed_at : (i tag : ℕ) → i < line_count
    → listed (written_from i tag) ≡ entry_if (is_written tag (line_at i)) (line_at i) ++ listed (written_from (i + 1) tag)
listed_at i tag h =
    ap (λ ls. listed (filter (is_written tag) ls)) (rest_at i h)
    ∙ listed_cons (is_written tag (line_at i)) (line_at i) (written_from (i + 1) tag)

pub names_more : (i tag : ℕ) (out next total : List ℕ) → i < line_count
    → next ≡ out ++ entry_if (is_written tag (line_at i)) (line_at i)
    → out ++ listed (written_from i tag) ≡ total → next ++ listed (written_from (i + 1) tag) ≡ total
names_more i tag out next total h e told =
    ap (λ t. t ++ listed (written_from (i + 1) tag)) e
    ∙ append_assoc out (entry_if (is_written tag (line_at i)) (line_at i)) (listed (written_from (i + 1) tag))
    ∙ ap (λ t. out ++ t) (sym (listed_at i tag h)) ∙ told

pub names_end : (i tag : ℕ) (out total : List ℕ) → line_count ≤ i
    → out ++ listed (written_from i tag) ≡ total → out ≡ total
names_end i tag out total h told =
    sym (append-nil out)
    ∙ sym (at_drop_all (λ ls. out ++ listed (filter (is_written tag) ls)) lines i (omega (arith, count))) ∙ told
