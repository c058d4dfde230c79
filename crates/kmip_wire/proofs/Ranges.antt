-- The trees that bytes parse as have their ranges.
use Rattle.std.proofs.Common.{◌≡◌, ℕ, zero, suc, ◌+◌, ◌<◌, ◌^◌, List, [], ◌∷◌, ◌++◌, length, take, drop, get_or, sym, ap, subst, ◌∙◌, arith}
use Rattle.std.specs.Prelude.{FitsSigned, IsUtf8}
use Rattle.std.specs.Int.{w32, w64, from_be_bytes}
use Rattle.std.proofs.Math.Facts.{sfits_to_z}
use Rattle.std.proofs.lemmas.List.{get_or-drop}
use Rattle.std.proofs.lemmas.Grind.{take_at_read}
use Rattle.kmip_wire.specs.Tree.{Tree, Trees, trees_of, scalar, structure, none, more, Scalar, integer, long_integer, big_integer, enumeration, boolean, text_string, byte_string, date_time, interval}
use Rattle.kmip_wire.specs.Head.{head_tag, head_length, value_of}
use Rattle.kmip_wire.specs.Parses.{IsValue, Parses, ParseAll}
use Rattle.kmip_wire.specs.Bytes.{AreBytes, IsInRange, HasRanges, HaveRanges}

pub bytes_take : (n : ℕ) (b : List ℕ) → AreBytes b → AreBytes (take n b)
bytes_take zero b h i = omega arith
bytes_take (suc n) [] h i = omega arith
bytes_take (suc n) (x ∷ xs) h zero = h zero
bytes_take (suc n) (x ∷ xs) h (suc i) = bytes_take n xs (λ j. h (suc j)) i

bytes_drop : (n : ℕ) (b : List ℕ) → AreBytes b → AreBytes (drop n b)
bytes_drop n b h i = omega (arith, get_or-drop n b i 0, h (n + i))

fits4 : (v : List ℕ) → AreBytes v → from_be_bytes w32 v < 2 ^ 32
fits4 v h = omega (arith, h 0, h 1, h 2, h 3)

fits8 : (v : List ℕ) → AreBytes v → from_be_bytes w64 v < 2 ^ 64
fits8 v h = omega (arith, h 0, h 1, h 2, h 3, h 4, h 5, h 6, h 7)

value_range : (s : Scalar) (v : List ℕ) → AreBytes v → IsValue s v → IsInRange s
value_range (integer z) v h e = subst (FitsSigned w32) (sym e.1) (sfits_to_z {w = w32} (omega (arith, fits4 v h)))
value_range (long_integer z) v h e = subst (FitsSigned w64) (sym e.1) (sfits_to_z {w = w64} (omega (arith, fits8 v h)))
value_range (big_integer b) v h e = subst AreBytes (sym e.1) h
value_range (enumeration n) v h e = omega (arith, e.1, fits4 v h)
value_range (boolean b) v h e = tt
value_range (text_string b) v h e = subst IsUtf8 (sym e.1) e.0
value_range (byte_string b) v h e = subst AreBytes (sym e) h
value_range (date_time n) v h e = omega (arith, e.1, fits8 v h)
value_range (interval n) v h e = omega (arith, e.1, fits4 v h)

tag_range : (b : List ℕ) → AreBytes b → head_tag b < 2 ^ 24
unfolding head_tag
tag_range b h = omega (arith, h 0, h 1, h 2)

mutual
  pub parsed_ranges : (t : Tree) (level : ℕ) (b : List ℕ) → AreBytes b → Parses t level b → HasRanges t
  parsed_ranges (scalar tag s) level b h p = (
    omega (arith, p.tag_is, tag_range b h),
    value_range s (value_of b) (bytes_take (head_length b) (drop 8 b) (bytes_drop 8 b h))
        p.value,
  )
  parsed_ranges (structure tag ts) level b h p = (
    omega (arith, p.tag_is, tag_range b h),
    all_ranges ts (level + 1) (value_of b)
        (bytes_take (head_length b) (drop 8 b) (bytes_drop 8 b h)) p.value,
  )

  all_ranges : (ts : Trees) (level : ℕ) (b : List ℕ) → AreBytes b → ParseAll ts level b → HaveRanges ts
  all_ranges none level b h p = tt
  all_ranges (more t ts) level b h (n, le, p, q) = (
    parsed_ranges t level (take n b) (bytes_take n b h) p,
    all_ranges ts level (drop n b) (bytes_drop n b h) q,
  )

-- ---- one tree more

ranges_append : (xs : List Tree) (t : Tree) → HaveRanges (trees_of xs) → HasRanges t
    → HaveRanges (trees_of (xs ++ t ∷ []))
ranges_append [] t h r = (r, tt)
ranges_append (x ∷ xs) t h r = (h.0, ranges_append xs t h.1 r)

pub ranges_more : (xs ts : List Tree) (i : ℕ) (t : Tree) → xs ≡ ts → i < length xs
    → get_or xs i t ≡ t → HaveRanges (trees_of (take i ts)) → HasRanges t
    → HaveRanges (trees_of (take (i + 1) ts))
ranges_more xs ts i t same h e before r =
    let P : List Tree → Type 0 = λ us. HaveRanges (trees_of us) in
    let Q : List Tree → Type 0 = λ us. (i < length us) × (get_or us i t ≡ t) in
    let q = subst Q same (h, e) in
    let p = take_at_read ts i t q.0 in
    subst P (sym (p.1 ∙ ap (λ u. take i ts ++ (u ∷ [])) q.1)) (ranges_append (take i ts) t before r)
