-- The payload of whole trees.
use Rattle.std.proofs.Common.{◌≡◌, ℕ, suc, Bool, true, false, ◌==◌, ◌&&◌, ◌||◌, not, cond, List, [], ◌∷◌, ◌++◌, map, refl, ap, ◌∙◌, sym, append-nil}
use Rattle.std.specs.List.{flat_map}
use Rattle.std.proofs.lemmas.Bool.{false≢true}
use Rattle.kmip_tags.specs.Tags as tags
use Rattle.kmip_wire.specs.Tree.{Tree, structure, trees_of}
use Rattle.kmip_wire.specs.Parts.{tag_of}
use Rattle.kmip_rows.specs.declared.rows.Place.{Place}
use Rattle.kmip_rows.specs.declared.rows.Place.TheVariants.{Tag, Object}
use Rattle.kmip_rows.specs.Rows.{Field, Row, structure_in}
use Rattle.kmip_rows.specs.Structures.{structures, objects}
use Rattle.kmip_payloads.specs.Items.{Item, item_at}
use Rattle.kmip_payloads.specs.Payload.{Walk, kept, here, below, are_none, is_needed, structure_of, tag_trees, place_trees, field_trees, build, payload}
use Rattle.kmip_payloads.specs.Laws.{tags_of, under, of_field, IsInOrder, has_needed}
use Rattle.kmip_payloads.proofs.Members.{and_left, and_right}

abbrev wholes : List Tree → List Item
wholes trees = map (λ tree. item_at [] tree) trees

kept_first :
    (b : Bool) (tree : Tree) (trees : List Tree)
    → kept b tree ++ trees ≡ cond b (tree ∷ trees) trees
kept_first true tree trees = refl
kept_first false tree trees = refl

here_whole : (tag : ℕ) (trees : List Tree) → here tag (wholes trees) ≡ under trees tag
here_whole tag [] = refl
here_whole tag (tree ∷ trees) =
    ap (λ (rest : List Tree). kept (tag_of tree == tag) tree ++ rest) (here_whole tag trees)
    ∙ kept_first (tag_of tree == tag) tree (under trees tag)

below_whole : (tag : ℕ) (trees : List Tree) → below tag (wholes trees) ≡ []
below_whole tag [] = refl
below_whole tag (tree ∷ trees) = below_whole tag trees

-- no structure is added where it is not needed, or has a tree
none_added :
    (needed none : Bool) (trees more : List Tree) → (needed ≡ true → none ≡ false)
    → trees ++ cond (needed && none) more [] ≡ trees
none_added false none trees more e = append-nil trees
none_added true none trees more e =
    ap (λ (b : Bool). trees ++ cond b more []) (e refl) ∙ append-nil trees

tag_whole :
    (inside : Walk Tree) (needed : Bool) (tag : ℕ) (trees : List Tree)
    → (needed ≡ true → are_none (under trees tag) ≡ false)
    → tag_trees inside needed (wholes trees) tag ≡ under trees tag
tag_whole inside needed tag trees e =
    let found = structure_in structures tag in
    let h = here_whole tag trees in
    let b = below_whole tag trees in
    (λ i. h i ++ cond (not (are_none (b i)) || (needed && are_none (h i))) (structure_of inside (b i) found) [])
    ∙ none_added needed (are_none (under trees tag)) (under trees tag) (structure_of inside [] found) e

needed_has : (needed none : Bool) → (not needed || not none) ≡ true → needed ≡ true → none ≡ false
needed_has true true h e = absurd (false≢true h)
needed_has true false h e = refl
needed_has false none h e = absurd (false≢true e)

place_whole :
    (inside : Walk Tree) (needed : Bool) (place : Place) (trees : List Tree)
    → (not needed || not (are_none (flat_map (under trees) (tags_of place)))) ≡ true
    → place_trees inside needed (wholes trees) place ≡ flat_map (under trees) (tags_of place)
place_whole inside needed (Tag tag) trees h =
    tag_whole inside needed tag trees
    (needed_has needed (are_none (under trees tag))
    (ap (λ (its : List Tree). not needed || not (are_none its)) (sym (append-nil (under trees tag))) ∙ h))
    ∙ sym (append-nil (under trees tag))
place_whole inside needed Object trees h =
    λ i. flat_map (λ (tag : ℕ). tag_whole inside false tag trees (λ e. absurd (false≢true e)) i) objects

fields_whole :
    (inside : Walk Tree) (fields : List Field) (trees : List Tree) → has_needed fields trees ≡ true
    → flat_map (field_trees inside (wholes trees)) fields ≡ flat_map (of_field trees) fields
fields_whole inside [] trees h = refl
fields_whole inside (field ∷ fields) trees h =
    let one : Bool = not (is_needed field.mark) || not (are_none (of_field trees field)) in
    let first = place_whole inside (is_needed field.mark) field.place trees
    (and_left one (has_needed fields trees) h) in
    let rest = fields_whole inside fields trees (and_right one (has_needed fields trees) h) in
    λ i. first i ++ rest i

built_whole :
    (level : ℕ) (fields : List Field) (trees : List Tree) → has_needed fields trees ≡ true
    → build (suc level) fields (wholes trees) ≡ flat_map (of_field trees) fields
unfolding build
built_whole level fields trees h = fields_whole (build level) fields trees h

pub payload_whole :
    (row : Row) (trees : List Tree) → IsInOrder row.request trees → has_needed row.request trees ≡ true
    → payload row (map (λ tree. item_at [] tree) trees) ≡ structure tags.REQUEST_PAYLOAD (trees_of trees)
payload_whole row trees o h =
    ap (λ (its : List Tree). structure tags.REQUEST_PAYLOAD (trees_of its))
    (built_whole 5 row.request trees h ∙ o)
