-- The diagnostic of any bytes.
use Rattle.std.specs.Prelude.{◌≡◌, ℕ, zero, suc, ◌+◌, ◌≤◌, ◌<◌, Bool, true, false, ◌&&◌, List, [], ◌∷◌, ◌++◌, length, take, drop, Option, Some, None, nat_le, ◌==◌, if◌then◌else◌}
use Rattle.kmip_wire.specs.Tree.{Tree}
use Rattle.kmip_wire.specs.Head.{head_tag, head_code, size_at, value_of}
use Rattle.kmip_wire.specs.Parses.{Parses, NoFront}
use Rattle.kmip_wire.specs.Reading.{front_at}
use Rattle.kmip_diag.specs.Skeleton.{skeleton}
use Rattle.kmip_diag.specs.Printed.{printed, printed_tag}

-- what a diagnostic shows: items, and then the end, a rest that is shown by `!` alone, or a
-- structure that is cut off
pub data Shown : Type 0 where
  ended : Shown
  stopped : Shown
  item : Tree → Shown → Shown
  cut_off : ℕ → Shown → Shown

-- `b` begins with the whole head of a structure, at a level that has structures
abbrev pub OpensAt : ℕ → List ℕ → Type 0
OpensAt level b = (level ≤ 64) × (8 ≤ length b) × (head_code b ≡ 1)

-- the items at the front that parse at the level, as many as there are; of a structure that is cut
-- off, the part of its contents that is there
abbrev pub Shows : Shown → ℕ → List ℕ → Type 0
Shows ended level b = b ≡ []
Shows stopped level b = (0 < length b) × NoFront level b × (OpensAt level b → ⊥)
Shows (item t s) level b =
    (n : ℕ) × (n ≤ length b) × Parses t level (take n b) × Shows s level (drop n b)
Shows (cut_off tag s) level b =
    NoFront level b × OpensAt level b × (tag ≡ head_tag b) × Shows s (level + 1) (value_of b)

-- one `!` ends the text where anything was left
abbrev pub shown_text : Option ℕ → Bool → Shown → List ℕ
shown_text prefix is_cut_off ended = if is_cut_off then 33 ∷ [] else []
shown_text prefix is_cut_off stopped = 33 ∷ []
shown_text prefix is_cut_off (item t s) = printed prefix (skeleton t) ++ shown_text prefix is_cut_off s
shown_text prefix is_cut_off (cut_off tag s) = printed_tag prefix tag ++ (91 ∷ shown_text prefix true s)

-- `text` is the diagnostic of `b`, whose root items have level 1
abbrev pub IsDiagnostic : Option ℕ → List ℕ → List ℕ → Type 0
IsDiagnostic prefix b text = (s : Shown) × Shows s 1 b × (text ≡ shown_text prefix false s)

-- the same by computing

-- the tag of the structure whose whole head begins `b`
abbrev pub opening_tag : ℕ → List ℕ → Option ℕ
opening_tag level b =
    if nat_le level 64 && (nat_le 8 (length b) && (head_code b == 1)) then Some (head_tag b)
    else None

abbrev pub shown_by : Option Tree → Option ℕ → Shown → Shown → Shown
shown_by (Some t) opens rest inner = item t rest
shown_by None (Some tag) rest inner = cut_off tag inner
shown_by None None rest inner = stopped

-- what `b` shows, with fuel above its length
abbrev pub shown_at : ℕ → ℕ → List ℕ → Shown
shown_at zero level b = ended
shown_at (suc fuel) level [] = ended
shown_at (suc fuel) level (x ∷ xs) =
    shown_by (front_at level (x ∷ xs)) (opening_tag level (x ∷ xs))
    (shown_at fuel level (drop (size_at (x ∷ xs)) (x ∷ xs)))
    (shown_at fuel (level + 1) (value_of (x ∷ xs)))

unfoldable pub shown_within : ℕ → List ℕ → Shown
shown_within level b = shown_at (suc (length b)) level b

unfoldable pub diagnostic : Option ℕ → List ℕ → List ℕ
diagnostic prefix b = shown_text prefix false (shown_within 1 b)
