-- Items by their tags, and messages as trees.
use Rattle.std.proofs.Common.{◌≡◌, ℕ, ◌+◌, ◌<◌, ◌≤◌, suc, List, [], ◌∷◌, ◌++◌, length, take, drop, get_or, refl, ◌∙◌, ap, sym, subst, arith, Bool, true, false, cond, Option, Some, None, Err, drop-cons}
use Rattle.std.specs.List.{filter, slice_get}
use Rattle.std.proofs.lemmas.List.{take-append-drop, take_all, length-drop}
use Rattle.std.proofs.lemmas.List.Elements.{filter-append, filter_more}
use Rattle.std.proofs.lemmas.List.Filters.{length-filter_more}
use Rattle.std.proofs.lemmas.Option.{slice_get-get_or, slice_get_past}
use Rattle.std.proofs.Math.Seq.{take-length}
use mir.Val.{bool_byte}
use Rattle.kmip_tags.specs.Tags.{BATCH_ITEM, RESPONSE_MESSAGE, RESULT_STATUS}
use Rattle.kmip_wire.specs.Tree.{Tree, structure, trees_of, list_of-trees_of}
use Rattle.kmip_wire.specs.Parses.{Parses, NoFront}
use Rattle.kmip_wire.specs.Found.{Finds}
use Rattle.kmip_wire.specs.declared.error.WireError.{WireError}
use Rattle.kmip_wire.specs.declared.error.WireError.TheVariants.{Malformed}
use Rattle.kmip_wire.specs.Reading.{item_of}
use Rattle.kmip_wire.proofs.Computed.{no_longer}
use Rattle.kmip_enums.specs.declared.operation.Operation.{Operation}
use Rattle.kmip_shape.specs.Shape.{has_tag}
use Rattle.kmip_client.specs.Untyped.{children_of, all_under, number_under, counts_one, status_answer, message_answer}
use Rattle.kmip_client.proofs.Headlines.{parses_of, computed_of}

-- the children of a structure are its items
pub children_are : (tree : Tree) (tag : ℕ) (items : List Tree)
    → structure tag (trees_of items) ≡ tree → items ≡ children_of tree
children_are tree tag items is = sym (list_of-trees_of items) ∙ ap children_of is

-- ---- the loops

bit_is : (b : Bool) → bool_byte b ≡ cond b 1 0
bit_is true = refl
bit_is false = refl

bit_small : (b : Bool) → bool_byte b ≤ 1
bit_small true = omega arith
bit_small false = omega arith

pub counted_within : (n i : ℕ) (b : Bool) → n ≤ i → n + bool_byte b ≤ i + 1
counted_within n i b h = omega (arith, bit_small b)

-- one item more is counted where it has the tag
pub counted_more : (tag i n : ℕ) (trees : List Tree) (tree : Tree) (b : Bool) → i < length trees
    → tree ≡ get_or trees i tree → b ≡ has_tag tag tree
    → n ≡ length (filter (has_tag tag) (take i trees)) →
    n + bool_byte b ≡ length (filter (has_tag tag) (take (i + 1) trees))
counted_more tag i n trees tree b h is same so_far =
    let e : length (filter (has_tag tag) (take (i + 1) trees))
    ≡ length (filter (has_tag tag) (take i trees))
    + cond (has_tag tag (get_or trees i tree)) 1 0 =
    length-filter_more (has_tag tag) trees i tree h in
    let f : cond (has_tag tag (get_or trees i tree)) 1 0 ≡ bool_byte b =
    ap (λ t. cond (has_tag tag t) 1 0) (sym is)
    ∙ (ap (λ v. cond v 1 0) (sym same) ∙ sym (bit_is b)) in
    omega (arith, e, f, so_far)

pub counted_all : (tag i n : ℕ) (trees : List Tree) → length trees ≤ i
    → n ≡ length (filter (has_tag tag) (take i trees)) → n ≡ length (filter (has_tag tag) trees)
counted_all tag i n trees past so_far = so_far ∙ ap (λ ts. length (filter (has_tag tag) ts)) (take_all i trees past)

-- an item without the tag is no first one
pub none_more : (tag i : ℕ) (trees : List Tree) (tree : Tree) → i < length trees
    → tree ≡ get_or trees i tree → has_tag tag tree ≡ false
    → filter (has_tag tag) (take i trees) ≡ [] →
    filter (has_tag tag) (take (i + 1) trees) ≡ []
none_more tag i trees tree h is not none =
    filter_more (has_tag tag) trees i tree h
    ∙ (ap (λ ts. ts ++ cond (has_tag tag (get_or trees i tree)) (get_or trees i tree ∷ []) []) none
    ∙ ap (λ (b : Bool). cond b (get_or trees i tree ∷ []) []) (ap (has_tag tag) (sym is) ∙ not))

kept_first : (tag : ℕ) (tree : Tree) (trees : List Tree) → has_tag tag tree ≡ true
    → filter (has_tag tag) (tree ∷ trees) ≡ tree ∷ filter (has_tag tag) trees
kept_first tag tree trees has = rw has refl

-- the first item with the tag stands where it was found
pub first_found : (tag i : ℕ) (trees : List Tree) (tree : Tree) → i < length trees
    → tree ≡ get_or trees i tree → has_tag tag tree ≡ true
    → filter (has_tag tag) (take i trees) ≡ [] →
    slice_get trees i ≡ slice_get (filter (has_tag tag) trees) 0
first_found tag i trees tree h is has none =
    let rest : drop i trees ≡ tree ∷ drop (suc i) trees =
    drop-cons trees i tree h ∙ ap (λ t. t ∷ drop (suc i) trees) (sym is) in
    let all : filter (has_tag tag) trees ≡ tree ∷ filter (has_tag tag) (drop (suc i) trees) =
    ap (filter (has_tag tag)) (sym (take-append-drop i trees))
    ∙ (filter-append (has_tag tag) (take i trees) (drop i trees)
    ∙ (ap (λ ts. ts ++ filter (has_tag tag) (drop i trees)) none
    ∙ (ap (filter (has_tag tag)) rest ∙ kept_first tag tree (drop (suc i) trees) has))) in
    slice_get-get_or trees i tree h ∙ (ap Some (sym is) ∙ sym (ap (λ ts. slice_get ts 0) all))

pub none_found : (tag i : ℕ) (trees : List Tree) → length trees ≤ i
    → filter (has_tag tag) (take i trees) ≡ []
    → slice_get trees (length trees) ≡ slice_get (filter (has_tag tag) trees) 0
none_found tag i trees past none =
    slice_get_past trees (length trees) (omega arith)
    ∙ sym (ap (λ ts. slice_get ts 0) (ap (filter (has_tag tag)) (sym (take_all i trees past)) ∙ none))

-- a list of one is that one
pub one_is : (trees : List Tree) (tree : Tree) → length trees ≡ 1 → slice_get trees 0 ≡ Some tree → trees ≡ tree ∷ []
one_is [] tree h is = absurd (omega arith)
one_is (first ∷ []) tree h is = ap (λ t. t ∷ []) (some_is is)
  where
    some_is : {t u : Tree} → Some t ≡ Some u → t ≡ u
    some_is e = cc
one_is (first ∷ next ∷ trees) tree h is = absurd (omega arith)

-- ---- messages

-- a response message of one batch item answers what that item does
pub item_answers : (operation : Operation) (message item : Tree)
    → has_tag RESPONSE_MESSAGE message ≡ true → counts_one message ≡ true
    → all_under BATCH_ITEM message ≡ item ∷ [] →
    message_answer operation message ≡ status_answer operation item (number_under RESULT_STATUS item)
item_answers operation message item has counts items = rw (has, counts, items) refl

no_item : (m : List ℕ) (o : Option Tree) → item_of 64 m ≡ o → ((t : Tree) → Parses t 1 m → ⊥) → None ≡ o
no_item m None is never = refl
no_item m (Some t) is never = absurd (never t (parses_of t m is))

no_front : (m : List ℕ) → NoFront 1 m → None ≡ item_of 64 m
no_front m never =
    no_item m (item_of 64 m) refl (λ t parses. never (length m)
    (omega arith, (t, subst (λ b. Parses t 1 b) (sym (take-length m)) parses)))

pub no_tree : (error : WireError) (m : List ℕ) → error ≡ Malformed → Finds (Err error) m → None ≡ item_of 64 m
no_tree error m is found =
    let F : WireError → Type 0 = λ e. Finds (Err e) m in
    no_front m (subst F is found)

-- a shorter item stands at the front
pub no_whole : (m : List ℕ) (n : ℕ) (u : Tree) → n ≤ length m → (n ≡ length m → ⊥)
    → Parses u 1 (take n m) → None ≡ item_of 64 m
no_whole m n u within other front =
    no_item m (item_of 64 m) refl (λ t parses.
    let rest : drop n m ≡ [] = no_longer u t 1 1 (take n m) (drop n m) front
    (subst (λ b. Parses t 1 b) (sym (take-append-drop n m)) parses) in
    other (omega (arith, ap length rest, length-drop n m)))

pub whole_is : (m : List ℕ) (n : ℕ) (t : Tree) → n ≡ length m → Parses t 1 (take n m) → Some t ≡ item_of 64 m
whole_is m n t is front = sym (computed_of t m (subst (λ b. Parses t 1 b)
    (ap (λ k. take k m) is ∙ take-length m) front))
