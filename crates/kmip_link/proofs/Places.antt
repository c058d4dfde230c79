use Rattle.std.proofs.Common.{◌≡◌, ℕ, ◌+◌, ◌%◌, ◌<◌, List, [], ◌∷◌, length, sym, add-one, arith}
use Rattle.std.proofs.Math.Nat.{suc-mod}
use Rattle.kmip_link.specs.Plan.{place_of}

-- the place after that of call k is that of the call after it
pub next_place : (sizes : List ℕ) (place k : ℕ) → 0 < length sizes → place ≡ place_of sizes k
    → (place + 1) % length sizes ≡ place_of sizes (k + 1)
next_place [] place k h e = absurd (omega (arith, h))
next_place (size ∷ sizes) place k h e = rw (e, add-one, add-one) (sym (suc-mod k (length (size ∷ sizes))))
