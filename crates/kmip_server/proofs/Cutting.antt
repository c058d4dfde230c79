-- Bytes that a write hands on, one after the other.
use Rattle.std.proofs.Common.{◌≡◌, ℕ, List, ◌++◌, take}
use Rattle.std.specs.List.{fold}
use Rattle.kmip_server.specs.Split.{Split, took}

abbrev pub with_begun : List (List ℕ) → List ℕ → Split
with_begun w m = record { whole = w; begun = m }

-- i of the bytes went to the begun message, which is not whole yet
pub record Growing (begun bytes message : List ℕ) (i : ℕ) : Type 0 where
  pub is : message ≡ begun ++ take i bytes
  pub split_is : (w : List (List ℕ)) → fold took (with_begun w begun) (take i bytes) ≡ with_begun w message
