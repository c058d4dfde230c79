-- The tags of structures are numbers of three bytes.
use Rattle.std.proofs.Common.{◌≡◌, ℕ, ◌<◌, ◌^◌, ◌==◌, true, Some, nat_lt, refl, ltb-true}
use Rattle.std.specs.List.{list_all}
use Rattle.kmip_rows.specs.Rows.{Structure, structure_in}
use Rattle.kmip_rows.specs.Structures.{structures}
use Rattle.kmip_payloads.proofs.Members.{all_in, found_in}

all_small : list_all {X = Structure} (λ row. nat_lt row.tag (2 ^ 24)) structures ≡ true
unfolding structures
all_small = refl

pub small_tag : (tag : ℕ) (row : Structure) → structure_in structures tag ≡ Some row → row.tag < 2 ^ 24
small_tag tag row e =
    ltb-true row.tag (2 ^ 24)
    (all_in {A = Structure} (λ row. nat_lt row.tag (2 ^ 24)) structures row all_small
    (found_in {A = Structure} (λ first. first.tag == tag) structures row e).0)
