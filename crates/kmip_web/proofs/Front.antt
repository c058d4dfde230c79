-- The item at the front, as it is read.
use Rattle.std.proofs.Common.{◌≡◌, refl, sym, arith, ℕ, ◌≤◌, List, length, take, Option, Some, None}
use Rattle.std.proofs.lemmas.List.{length-take}
use Rattle.kmip_wire.specs.Tree.{Tree}
use Rattle.kmip_wire.specs.Parses.{Parses, NoFront, IsLevel}
use Rattle.kmip_wire.specs.Reading.{front_at}
use Rattle.kmip_wire.proofs.Computed.{front_computed}
use Rattle.kmip_encodings.specs.Sizes.{size_of}
use Rattle.kmip_encodings.proofs.Parsed.{parsed_size}

first : IsLevel 1
first = (omega arith, omega arith)

pub front_is : (t : Tree) (n : ℕ) (b : List ℕ) → n ≤ length b → Parses t 1 (take n b) → Some t ≡ front_at 1 b
front_is t n b le p = sym ((front_computed t 1 b first).1 (n, le, p))

pub front_none : (b : List ℕ) → NoFront 1 b → None ≡ front_at 1 b
front_none b none = by (front_at 1 b) refl
  where
    by : (o : Option Tree) → front_at 1 b ≡ o → None ≡ o
    by None e = refl
    by (Some t) e = let f = (front_computed t 1 b first).0 e in absurd (none f.0 (f.1, (t, f.2)))

-- it is no longer than the bytes
pub front_fits : (t : Tree) (n : ℕ) (b : List ℕ) → n ≤ length b → Parses t 1 (take n b)
    → size_of t ≤ length b
front_fits t n b le p = omega (arith, (parsed_size t 1 (take n b) p).0, length-take n b)
