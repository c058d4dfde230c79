-- How many bytes an item has, by its tree and by its head.
use Rattle.std.proofs.Common.{◌≡◌, sym, ◌∙◌, ap, arith, ℕ, ◌+◌, ◌%◌, List, length, take, drop}
use Rattle.std.proofs.lemmas.List.{length-take, length-drop}
use Rattle.kmip_wire.specs.Tree.{Tree, Trees, Scalar, scalar, structure, none, more, integer, long_integer, big_integer, enumeration, boolean, text_string, byte_string, date_time, interval}
use Rattle.kmip_wire.specs.Head.{head_length, pads, size_at, value_of}
use Rattle.kmip_wire.specs.Parses.{Parses, ParseAll, IsValue}
use Rattle.kmip_shape.specs.Writes.{len_of}
use Rattle.kmip_encodings.specs.Sizes.{size_of, sizes_of}

value_is : (s : Scalar) (v : List ℕ) → IsValue s v → length v ≡ len_of s
value_is (integer z) v h = h.0
value_is (long_integer z) v h = h.0
value_is (big_integer b) v h = ap length (sym h.1)
value_is (enumeration n) v h = h.0
value_is (boolean b) v h = h.0
value_is (text_string b) v h = ap length (sym h.1)
value_is (byte_string b) v h = ap length (sym h)
value_is (date_time n) v h = h.0
value_is (interval n) v h = h.0

value_length : (b : List ℕ) → length b ≡ size_at b → length (value_of b) ≡ head_length b
value_length b whole = omega (arith, whole, length-take (head_length b) (drop 8 b), length-drop 8 b)

-- the size is the length, a multiple of 8
mutual
  pub parsed_size : (t : Tree) (level : ℕ) (b : List ℕ) → Parses t level b → (size_of t ≡ length b) × (length b % 8 ≡ 0)
  parsed_size (scalar tag s) level b h =
      let v = value_is s (value_of b) h.value in
      let n = value_length b h.whole in
      let same : head_length b ≡ len_of s = sym n ∙ v in
      (ap (λ k. 8 + k + pads k) (sym same) ∙ sym h.whole, omega (arith, h.whole))
  parsed_size (structure tag ts) level b h =
      let n = value_length b h.whole in
      let inner = parsed_sizes ts (level + 1) (value_of b) h.value in
      (omega (arith, h.whole, n, inner.0, inner.1), omega (arith, h.whole))

  parsed_sizes : (ts : Trees) (level : ℕ) (b : List ℕ) → ParseAll ts level b
      → (sizes_of ts ≡ length b) × (length b % 8 ≡ 0)
  parsed_sizes none level b h = (sym (ap length h), omega (arith, ap length h))
  parsed_sizes (more t ts) level b (n, le, p, q) =
      let first = parsed_size t level (take n b) p in
      let later = parsed_sizes ts level (drop n b) q in (
        omega (arith, first.0, later.0, le, length-take n b, length-drop n b),
        omega (arith, first.1, later.1, le, length-take n b, length-drop n b),
      )
