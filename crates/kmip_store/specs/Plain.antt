-- What the plain maker makes: its n-th answer, from the number n.
use Rattle.std.specs.Prelude.{ℕ, true, ◌+◌, ◌%◌, min, ℤ, pos, negsuc, List, [], ◌∷◌, ◌++◌, replicate}
use Rattle.std.specs.Int.{w64, to_be_bytes}
use Rattle.kmip_store.specs.Makers.{MakerState}
use Rattle.kmip_store.specs.declared.maker.Asked.{Asked}
use Rattle.kmip_store.specs.declared.maker.Asked.TheVariants.{KeyPair, Random, Sign}
use Rattle.kmip_store.specs.declared.maker.Made.{Made}
use Rattle.kmip_store.specs.declared.maker.Made.TheVariants.{Pair, Bytes}

-- how many random bytes are made: none for a negative number, and at most 65,536
abbrev pub count_of : ℤ → ℕ
count_of (pos n) = min n 65536
count_of (negsuc n) = 0

abbrev pub plain_answer : ℕ → Asked → Made
plain_answer n (KeyPair bits) =
    Pair (to_be_bytes w64 n ++ 1 ∷ []) (to_be_bytes w64 n ++ 2 ∷ [])
plain_answer n (Random count) = Bytes (replicate (count_of count) (n % 256))
plain_answer n (Sign key bytes) = Bytes (to_be_bytes w64 n)

-- its answers to these questions, the first of which is number n + 1
abbrev pub plain_answers : ℕ → List Asked → List Made
plain_answers n [] = []
plain_answers n (asked ∷ questions) =
    plain_answer (n + 1) asked ∷ plain_answers (n + 1) questions

-- what the plain maker keeps
pub record PlainMemory : Type 0 where
  pub asked : List Asked
  pub given : List Made

-- the plain maker as contracts see it: it always tells, and never refuses
abbrev pub plain_state : PlainMemory → MakerState
plain_state m = record { tells = true; asked = m.asked; given = m.given; faults = 0 }
