-- Empty identifiers among the items of a payload.
use Rattle.std.proofs.Common.{◌≡◌, ℕ, zero, suc, ◌+◌, ◌<◌, List, ◌++◌, [], ◌∷◌, length, take, get_or, sym, ap, subst, ◌∙◌, arith, true, false}
use Rattle.std.proofs.lemmas.Bool.{or_parts, or_from, or_left, or_right}
use Rattle.std.proofs.lemmas.Grind.{take_at_read}
use Rattle.kmip_wire.specs.Tree.{Tree, trees_of}
use Rattle.kmip_operations.specs.Calls.{has_empty_identifier, have_empty_identifier}

none_with : (items : List Tree) (item : Tree) → have_empty_identifier (trees_of items) ≡ false
    → has_empty_identifier item ≡ false
    → have_empty_identifier (trees_of (items ++ item ∷ [])) ≡ false
none_with [] item before not = or_from (has_empty_identifier item) false not before
none_with (first ∷ items) item before not =
    let parts = or_parts (has_empty_identifier first) (have_empty_identifier (trees_of items)) before
    in or_from (has_empty_identifier first)
    (have_empty_identifier (trees_of (items ++ item ∷ []))) parts.0
    (none_with items item parts.1 not)

-- one item more has none
pub none_so_far : (items : List Tree) (i : ℕ) (item : Tree) → i < length items
    → get_or items i item ≡ item → have_empty_identifier (trees_of (take i items)) ≡ false
    → has_empty_identifier item ≡ false
    → have_empty_identifier (trees_of (take (i + 1) items)) ≡ false
none_so_far items i item h is before not =
    let P : List Tree → Type 0 = λ us. have_empty_identifier (trees_of us) ≡ false in
    subst P (sym ((take_at_read items i item h).1 ∙ ap (λ u. take i items ++ (u ∷ [])) is))
    (none_with (take i items) item before not)

-- one item that has one is enough
pub one_found : (items : List Tree) (i : ℕ) (item : Tree) → i < length items
    → get_or items i item ≡ item → has_empty_identifier item ≡ true
    → have_empty_identifier (trees_of items) ≡ true
one_found [] i item h is found = absurd (omega arith)
one_found (first ∷ items) zero item h is found =
    or_left (has_empty_identifier first) (have_empty_identifier (trees_of items))
    (ap has_empty_identifier is ∙ found)
one_found (first ∷ items) (suc i) item h is found =
    or_right (has_empty_identifier first) (have_empty_identifier (trees_of items))
    (one_found items i item (omega arith) is found)
