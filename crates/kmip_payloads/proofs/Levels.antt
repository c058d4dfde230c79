-- The walks over fields, a level down.
use Rattle.std.proofs.Common.{◌≡◌, ℕ, zero, suc, ◌-◌, List, [], refl, ap, arith}
use Rattle.std.specs.List.{flat_map}
use Rattle.std.proofs.Math.Nat.{suc-ne-zero}
use Rattle.kmip_rows.specs.Rows.{Field}
use Rattle.kmip_payloads.specs.Items.{Item}
use Rattle.kmip_payloads.specs.Payload.{build, field_trees}
use Rattle.kmip_payloads.specs.Lacks.{all_lacks, field_lacks}

less_one : (n : ℕ) → suc n - 1 ≡ n
less_one n = omega arith

pub build_none : (level : ℕ) (fields : List Field) (items : List Item) → level ≡ 0 → build level fields items ≡ []
unfolding build
build_none zero fields items e = refl
build_none (suc n) fields items e = absurd (suc-ne-zero n e)

pub build_some :
    (level : ℕ) (fields : List Field) (items : List Item) → (level ≡ 0 → ⊥)
    → flat_map (field_trees (build (level - 1)) items) fields ≡ build level fields items
unfolding build
build_some zero fields items ne = absurd (ne refl)
build_some (suc n) fields items ne =
    ap (λ (k : ℕ). flat_map (field_trees (build k) items) fields) (less_one n)

pub lacks_none : (level : ℕ) (fields : List Field) (items : List Item) → level ≡ 0 → all_lacks level fields items ≡ []
unfolding all_lacks
lacks_none zero fields items e = refl
lacks_none (suc n) fields items e = absurd (suc-ne-zero n e)

pub lacks_some :
    (level : ℕ) (fields : List Field) (items : List Item) → (level ≡ 0 → ⊥)
    → flat_map (field_lacks (all_lacks (level - 1)) items) fields ≡ all_lacks level fields items
unfolding all_lacks
lacks_some zero fields items ne = absurd (ne refl)
lacks_some (suc n) fields items ne =
    ap (λ (k : ℕ). flat_map (field_lacks (all_lacks k) items) fields) (less_one n)
