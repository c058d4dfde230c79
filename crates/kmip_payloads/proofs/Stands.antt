-- An item that a field takes stands in the payload, and no level more gives another payload.
use Rattle.std.proofs.Common.{◌≡◌, ℕ, zero, suc, ◌+◌, ◌≤◌, Bool, true, false, ◌==◌, ◌&&◌, ◌||◌, not, cond, List, [], ◌∷◌, ◌++◌, Option, Some, None, Contains, find, inl, inr, refl, sym, ap, ◌∙◌, subst, arith, eq-eqb, eqb-true}
use Rattle.std.specs.List.{flat_map, list_all}
use Rattle.std.proofs.lemmas.Bool.{false≢true}
use Rattle.kmip_wire.specs.Tree.{Tree, structure, trees_of}
use Rattle.kmip_wire.specs.Parts.{tag_of}
use Rattle.kmip_rows.specs.declared.rows.Place.{Place}
use Rattle.kmip_rows.specs.declared.rows.Place.TheVariants.{Tag, Object}
use Rattle.kmip_rows.specs.Rows.{Field, Structure, Row, structure_in}
use Rattle.kmip_rows.specs.Structures.{structures, objects}
use Rattle.kmip_payloads.specs.Items.{Item, item_at}
use Rattle.kmip_payloads.specs.Payload.{kept, here_of, below_of, here, below, are_none, is_needed, stands, structure_of, tag_trees, place_trees, field_trees, build, LEVELS}
use Rattle.kmip_payloads.specs.Strays.{is_under, has_field, fields_of, has_place, is_taken, first_stray}
use Rattle.kmip_payloads.specs.Laws.{tags_of, has_levels, StandsAt}
use Rattle.kmip_payloads.proofs.Members.{IsIn, from_contains, to_contains, in_left, in_right, in_flat_map, and_left, and_right, any_in, all_in, found_in}

-- ---- an item here, and one below

kept_in : {A : Type 0} (b : Bool) (x : A) → b ≡ true → IsIn x (kept b x)
kept_in true x e = inl refl
kept_in false x e = absurd (false≢true e)

same_tag : (tag : ℕ) → (tag == tag) ≡ true
same_tag tag = eq-eqb tag tag refl

here_in :
    (tree : Tree) (items : List Item) → IsIn (item_at [] tree) items
    → IsIn tree (here (tag_of tree) items)
here_in tree items h =
    in_flat_map (here_of (tag_of tree)) items (item_at [] tree) tree h
    (kept_in (tag_of tree == tag_of tree) tree (same_tag (tag_of tree)))

below_in :
    (outer : ℕ) (path : List ℕ) (tree : Tree) (items : List Item)
    → IsIn (item_at (outer ∷ path) tree) items
    → IsIn (item_at path tree) (below outer items)
below_in outer path tree items h =
    in_flat_map (below_of outer) items (item_at (outer ∷ path) tree)
    (item_at path tree) h
    (kept_in (outer == outer) (item_at path tree) (same_tag outer))

some_in : {A : Type 0} (xs : List A) (x : A) → IsIn x xs → are_none xs ≡ false
some_in [] x h = absurd h
some_in (y ∷ ys) x h = refl

-- ---- what a field has under a tag

place_has :
    (inside : List Field → List Item → List Tree) (needed : Bool) (items : List Item) (place : Place)
    (tag : ℕ) (tree : Tree) → is_under tag place ≡ true
    → ((needed : Bool) → IsIn tree (tag_trees inside needed items tag))
    → IsIn tree (place_trees inside needed items place)
place_has inside needed items (Tag own) tag tree u h =
    let P : ℕ → Type 0 = λ k. IsIn tree (tag_trees inside needed items k) in
    subst P (sym (eqb-true own tag u)) (h needed)
place_has inside needed items Object tag tree u h =
    let r = any_in {A = ℕ} (λ own. own == tag) objects u in
    let P : ℕ → Type 0 = λ k. IsIn tree (tag_trees inside false items k) in
    in_flat_map (tag_trees inside false items) objects r.0 tree r.1
    (subst P (sym (eqb-true r.0 tag r.2)) (h false))

fields_have :
    (level : ℕ) (fields : List Field) (items : List Item) (tag : ℕ) (tree : Tree)
    → has_field fields tag ≡ true
    → ((needed : Bool) → IsIn tree (tag_trees (build level) needed items tag))
    → IsIn tree (build (suc level) fields items)
unfolding build
fields_have level fields items tag tree f h =
    let r = any_in {A = Field} (λ field. is_under tag field.place) fields f in
    in_flat_map (field_trees (build level) items) fields r.0 tree r.1
    (place_has (build level) (is_needed r.0.mark) items r.0.place tag tree r.2 h)

in_structure :
    (inside : List Field → List Item → List Tree) (needed : Bool) (items : List Item) (tag : ℕ)
    (row : Structure) → structure_in structures tag ≡ Some row → are_none (below tag items) ≡ false
    → IsIn (structure tag (trees_of (inside row.fields (below tag items))))
    (tag_trees inside needed items tag)
in_structure inside needed items tag row e some =
    let own : row.tag ≡ tag = eqb-true row.tag tag
    (found_in {A = Structure} (λ first. first.tag == tag) structures row e).1 in
    let its : Tree = structure tag (trees_of (inside row.fields (below tag items))) in
    let P : Bool → Type 0 = λ none. IsIn its (here tag items ++
    cond (not none || (needed && are_none (here tag items)))
    (structure_of inside (below tag items) (structure_in structures tag)) []) in
    let Q : Option Structure → Type 0 = λ found. IsIn its (structure_of inside (below tag items) found) in
    subst P (sym some)
    (in_right (here tag items) (structure_of inside (below tag items) (structure_in structures tag)) its
    (subst Q (sym e) (inl (ap (λ (k : ℕ). structure k (trees_of (inside row.fields (below tag items)))) (sym own)))))

-- ---- levels

no_fields : (fields : List Field) (tag : ℕ) → are_none fields ≡ true → has_field fields tag ≡ true → ⊥
no_fields [] tag e h = false≢true h
no_fields (field ∷ fields) tag e h = false≢true e

no_place : (path : List ℕ) (tag : ℕ) → has_place [] path tag ≡ true → ⊥
no_place [] tag h = false≢true h
no_place (outer ∷ path) tag h = false≢true h

under_in : (place : Place) (tag : ℕ) → is_under tag place ≡ true → IsIn tag (tags_of place)
under_in (Tag own) tag u = inl (sym (eqb-true own tag u))
under_in Object tag u =
    let r = any_in {A = ℕ} (λ own. own == tag) objects u in
    let P : ℕ → Type 0 = λ k. IsIn k objects in subst P (eqb-true r.0 tag r.2) r.1

level_down :
    (level : ℕ) (fields : List Field) (tag : ℕ) → has_levels (suc level) fields ≡ true
    → has_field fields tag ≡ true
    → has_levels level (fields_of (structure_in structures tag)) ≡ true
unfolding has_levels
level_down level fields tag l f =
    let r = any_in {A = Field} (λ field. is_under tag field.place) fields f in
    let p : ℕ → Bool = λ k. has_levels level (fields_of (structure_in structures k)) in
    all_in p (tags_of r.0.place) tag
    (all_in {A = Field} (λ field. list_all p (tags_of field.place)) fields r.0 l r.1)
    (under_in r.0.place tag r.2)

no_levels : (fields : List Field) → has_levels zero fields ≡ true → are_none fields ≡ true
unfolding has_levels
no_levels fields l = l

-- ---- an item that a field takes stands

within :
    (outer : ℕ) (path : List ℕ) (tree : Tree) (level : ℕ) (fields : List Field) (items : List Item)
    (found : Option Structure) → structure_in structures outer ≡ found
    → has_field fields outer ≡ true
    → has_place (fields_of found) path (tag_of tree) ≡ true
    → has_levels level (fields_of found) ≡ true
    → IsIn (item_at path tree) (below outer items)
    → ((fields : List Field) (items : List Item) → has_levels level fields ≡ true
    → has_place fields path (tag_of tree) ≡ true
    → IsIn (item_at path tree) items → StandsAt path tree (build level fields items))
    → StandsAt (outer ∷ path) tree (build (suc level) fields items)
within outer path tree level fields items None e f h l i deeper = absurd (no_place path (tag_of tree) h)
within outer path tree level fields items (Some row) e f h l i deeper =
    let inner : List Tree = build level row.fields (below outer items) in (
      inner,
      to_contains (build (suc level) fields items) (structure outer (trees_of inner))
          (fields_have level fields items outer (structure outer (trees_of inner)) f
          (λ needed. in_structure (build level) needed items outer row e
          (some_in (below outer items) (item_at path tree) i))),
      deeper row.fields (below outer items) l h i,
    )

stands_at :
    (path : List ℕ) (tree : Tree) (level : ℕ) (fields : List Field) (items : List Item)
    → has_levels level fields ≡ true → has_place fields path (tag_of tree) ≡ true
    → IsIn (item_at path tree) items → StandsAt path tree (build level fields items)
stands_at [] tree zero fields items l h i =
    absurd (no_fields fields (tag_of tree) (no_levels fields l) h)
stands_at [] tree (suc level) fields items l h i =
    to_contains (build (suc level) fields items) tree
    (fields_have level fields items (tag_of tree) tree h
    (λ needed. in_left (here (tag_of tree) items)
    (cond (stands needed (tag_of tree) items)
    (structure_of (build level) (below (tag_of tree) items) (structure_in structures (tag_of tree))) [])
    tree (here_in tree items i)))
stands_at (outer ∷ path) tree zero fields items l h i =
    absurd (no_fields fields outer (no_levels fields l)
    (and_left (has_field fields outer) (has_place (fields_of (structure_in structures outer)) path (tag_of tree)) h))
stands_at (outer ∷ path) tree (suc level) fields items l h i =
    let f : has_field fields outer ≡ true =
    and_left (has_field fields outer) (has_place (fields_of (structure_in structures outer)) path (tag_of tree)) h in
    within outer path tree level fields items (structure_in structures outer) refl f
    (and_right (has_field fields outer) (has_place (fields_of (structure_in structures outer)) path (tag_of tree)) h)
    (level_down level fields outer l f) (below_in outer path tree items i)
    (stands_at path tree level)

-- ---- no item is lost

nowhere_in :
    {A : Type 0} (p : A → Bool) (y : A) (ys : List A) (x : A) (b : Bool) → p y ≡ b
    → cond b (Some y) (find p ys) ≡ None → IsIn x (y ∷ ys)
    → (find p ys ≡ None → IsIn x ys → p x ≡ false) → p x ≡ false
nowhere_in p y ys x true t e h more = absurd (cc)
nowhere_in p y ys x false t e (inl same) more = ap p same ∙ t
nowhere_in p y ys x false t e (inr h) more = more e h

nowhere :
    {A : Type 0} (p : A → Bool) (xs : List A) (x : A) → find p xs ≡ None
    → IsIn x xs → p x ≡ false
nowhere p [] x e h = absurd h
nowhere p (y ∷ ys) x e h = nowhere_in p y ys x (p y) refl e h (nowhere p ys x)

not_false : (b : Bool) → not b ≡ false → b ≡ true
not_false true e = refl
not_false false e = absurd (false≢true (sym e))

pub no_item_lost :
    (row : Row) (items : List Item) (item : Item) → has_levels LEVELS row.request ≡ true
    → first_stray row items ≡ None → Contains items item
    → StandsAt item.path item.tree (build LEVELS row.request items)
no_item_lost row items item l none c =
    let p : Item → Bool = λ item. not (is_taken row item) in
    stands_at item.path item.tree LEVELS row.request items l
    (not_false (is_taken row item)
    (nowhere p items item none (from_contains items item c)))
    (from_contains items item c)

-- ---- no level more gives another payload

same_structure :
    (more less : List Field → List Item → List Tree) (items : List Item) (found : Option Structure)
    → more (fields_of found) items ≡ less (fields_of found) items
    → structure_of more items found ≡ structure_of less items found
same_structure more less items None e = refl
same_structure more less items (Some row) e = ap (λ (trees : List Tree). structure row.tag (trees_of trees) ∷ []) e

same_tags :
    (more less : List Field → List Item → List Tree) (items : List Item) (needed : Bool) (tags : List ℕ)
    → ((tag : ℕ) → IsIn tag tags → (inner : List Item)
    → more (fields_of (structure_in structures tag)) inner ≡ less (fields_of (structure_in structures tag)) inner)
    → flat_map (tag_trees more needed items) tags ≡ flat_map (tag_trees less needed items) tags
same_tags more less items needed [] same = refl
same_tags more less items needed (tag ∷ tags) same =
    let first = same_structure more less (below tag items) (structure_in structures tag)
    (same tag (inl refl) (below tag items)) in
    let rest = same_tags more less items needed tags (λ other i. same other (inr i)) in
    ap (λ (its : List Tree).
    (here tag items ++ cond (stands needed tag items) its []) ++ flat_map (tag_trees more needed items) tags) first
    ∙ ap (λ (its : List Tree). tag_trees less needed items tag ++ its) rest

same_place :
    (more less : List Field → List Item → List Tree) (items : List Item) (needed : Bool) (place : Place)
    → ((tag : ℕ) → IsIn tag (tags_of place) → (inner : List Item)
    → more (fields_of (structure_in structures tag)) inner ≡ less (fields_of (structure_in structures tag)) inner)
    → place_trees more needed items place ≡ place_trees less needed items place
same_place more less items needed (Tag tag) same =
    ap (λ (its : List Tree). here tag items ++ cond (stands needed tag items) its [])
    (same_structure more less (below tag items) (structure_in structures tag) (same tag (inl refl) (below tag items)))
same_place more less items needed Object same = same_tags more less items false objects same

same_fields :
    (more less : List Field → List Item → List Tree) (items : List Item) (fields : List Field)
    → ((field : Field) → IsIn field fields → (tag : ℕ) → IsIn tag (tags_of field.place) → (inner : List Item)
    → more (fields_of (structure_in structures tag)) inner ≡ less (fields_of (structure_in structures tag)) inner)
    → flat_map (field_trees more items) fields ≡ flat_map (field_trees less items) fields
same_fields more less items [] same = refl
same_fields more less items (field ∷ fields) same =
    ap (λ (its : List Tree). its ++ flat_map (field_trees more items) fields)
    (same_place more less items (is_needed field.mark) field.place (same field (inl refl)))
    ∙ ap (λ (its : List Tree). field_trees less items field ++ its)
    (same_fields more less items fields (λ other i. same other (inr i)))

more_of_none :
    (level : ℕ) (fields : List Field) (items : List Item) → are_none fields ≡ true
    → build level fields items ≡ []
unfolding build
more_of_none zero fields items e = refl
more_of_none (suc level) [] items e = refl
more_of_none (suc level) (field ∷ fields) items e = absurd (false≢true e)

pub same_levels :
    (level more : ℕ) (fields : List Field) (items : List Item) → has_levels level fields ≡ true
    → level ≤ more → build more fields items ≡ build level fields items
unfolding build has_levels
same_levels zero more fields items l le = more_of_none more fields items l
same_levels (suc level) zero fields items l le = absurd (omega arith)
same_levels (suc level) (suc more) fields items l le =
    same_fields (build more) (build level) items fields
    (λ field f tag t inner.
    let p : ℕ → Bool = λ k. has_levels level (fields_of (structure_in structures k)) in
    same_levels level more (fields_of (structure_in structures tag)) inner
    (all_in p (tags_of field.place) tag
    (all_in {A = Field} (λ field. list_all p (tags_of field.place)) fields field l f) t)
    (omega arith))
