-- Texts that differ from the names of the table.
use Rattle.std.proofs.Common.{◌≡◌, ℕ, true, false, List, bytes_eq, refl, ◌==◌, ◌&&◌, [], ◌∷◌, ap, arith}
use Rattle.std.specs.Prelude.{codes, Some}
use Rattle.kmip_wire.specs.Tree.{Tree}
use Rattle.kmip_shape.specs.Shape.{name_key, type_key, Key, OuterValue}
use Rattle.kmip_shape.specs.Reads.{read_of, read_case}
use Rattle.kmip_types.specs.AttributeValues.{attribute_value, attribute_values}

differs : (w s : List ℕ) → (s ≡ w → ⊥) → bytes_eq w s ≡ false
differs [] [] h = absurd (h refl)
differs [] (_ ∷ _) h = refl
differs (_ ∷ _) [] h = refl
differs (y ∷ ys) (x ∷ xs) h = elim (y == x) as (λ b. (y == x) ≡ b → (b && bytes_eq ys xs) ≡ false)
    [ true ↦ λ e. differs ys xs (λ k. h (grind arith)) | false ↦ λ _. refl ] refl

-- a name that is none of the table's
pub record Other (s : List ℕ) : Type 0 where
  pub name : s ≡ codes "Name" → ⊥
  pub object_type : s ≡ codes "Object Type" → ⊥
  pub algorithm : s ≡ codes "Cryptographic Algorithm" → ⊥
  pub parameters : s ≡ codes "Cryptographic Parameters" → ⊥
  pub state : s ≡ codes "State" → ⊥
  pub group : s ≡ codes "Object Group" → ⊥
  pub link : s ≡ codes "Link" → ⊥
  pub linked : s ≡ codes "Linked Object Identifier" → ⊥
  pub information : s ≡ codes "Application Specific Information" → ⊥
  pub contact : s ≡ codes "Contact Information" → ⊥

-- such a name selects by the item's type
by_type : (s : List ℕ) (tree : Tree) → Other s → name_key (Some s) attribute_values tree ≡ type_key tree
by_type s tree o = rw (
  differs (codes "Name") s o.name,
  differs (codes "Object Type") s o.object_type,
  differs (codes "Cryptographic Algorithm") s o.algorithm,
  differs (codes "Cryptographic Parameters") s o.parameters,
  differs (codes "State") s o.state,
  differs (codes "Object Group") s o.group,
  differs (codes "Link") s o.link,
  differs (codes "Linked Object Identifier") s o.linked,
  differs (codes "Application Specific Information") s o.information,
  differs (codes "Contact Information") s o.contact,
) refl

pub unnamed : (outer : OuterValue) (s : List ℕ) (tree : Tree) → outer.name ≡ Some s → Other s
    → read_of attribute_value outer tree ≡ read_case attribute_values attribute_values (type_key tree) outer tree
unnamed outer s tree e o =
    let k : name_key outer.name attribute_values tree ≡ type_key tree = rw e (by_type s tree o) in
    ap (λ (key : Key). read_case attribute_values attribute_values key outer tree) k
