-- The elements of items, and the characters of a value, written one after the other.
use Rattle.std.proofs.Common.{◌≡◌, ℕ, ◌+◌, ◌<◌, ◌≤◌, List, ◌∷◌, [], ◌++◌, length, drop, get_or, sym, ap, refl, ◌∙◌, append_assoc, append-nil, add-one, drop-cons}
use Rattle.std.specs.Prelude.{Result, Ok, Err, IfOk}
use Rattle.std.proofs.lemmas.List.{at_drop_all, at_drop_more}
use Rattle.kmip_wire.specs.Tree.{Tree, trees_of, structure}
use Rattle.kmip_tags.specs.Tags.{ATTRIBUTE_VALUE}
use Rattle.kmip_encodings.specs.Context.{named_after}
use Rattle.kmip_encodings.specs.Xml.{xml_char, escaped, xml_at, items_xml, start_xml, end_xml}

rest_at : (items : List Tree) (i : ℕ) (item : Tree) → i < length items → item ≡ get_or items i item
    → drop i items ≡ item ∷ drop (i + 1) items
rest_at items i item h e = rw (add-one, drop-cons items i item h, ← e) refl

pub elements_more : (items : List Tree) (i : ℕ) (item : Tree) (named later : ℕ) (old new all : List ℕ)
    → i < length items → item ≡ get_or items i item → new ≡ old ++ xml_at named item
    → later ≡ named_after named item
    → old ++ items_xml named (trees_of (drop i items)) ≡ all
    → new ++ items_xml later (trees_of (drop (i + 1) items)) ≡ all
elements_more items i item named later old new all h e p n q =
    let rest = trees_of (drop (i + 1) items) in
    ap (λ l. l ++ items_xml later rest) p
    ∙ ap (λ m. (old ++ xml_at named item) ++ items_xml m rest) n
    ∙ append_assoc old (xml_at named item) (items_xml (named_after named item) rest)
    ∙ sym (ap (λ ts. old ++ items_xml named (trees_of ts)) (rest_at items i item h e))
    ∙ q

pub elements_done : (items : List Tree) (i named : ℕ) (old all : List ℕ) → length items ≤ i
    → old ++ items_xml named (trees_of (drop i items)) ≡ all → old ≡ all
elements_done items i named old all h p =
    sym (append-nil old) ∙ sym (at_drop_all (λ ts. old ++ items_xml named (trees_of ts)) items i h) ∙ p

pub structure_written : (tag : ℕ) (items : List Tree) (old a b c d : List ℕ)
    → a ≡ old ++ start_xml tag → b ≡ a ++ 62 ∷ [] → c ≡ b ++ items_xml ATTRIBUTE_VALUE (trees_of items)
    → d ≡ c ++ end_xml tag
    → d ≡ old ++ xml_at ATTRIBUTE_VALUE (structure tag (trees_of items))
structure_written tag items old a b c d p q r s = rw (s, r, q, p) (simp append_assoc)

pub ok_then : {A E P Q : Type 0} (r : Result A E) → IfOk r (λ _. P) → (P → Q) → IfOk r (λ _. Q)
ok_then (Ok x) h f = f h
ok_then (Err e) h f = tt

-- ---- characters

pub escaped_more : (all : List ℕ) (n c : ℕ) → (n < length all) × (c ≡ get_or all n c)
    → escaped (drop n all) ≡ xml_char c ++ escaped (drop (n + 1) all)
escaped_more all n c h =
    at_drop_more escaped all n c h.0 ∙ ap (λ x. xml_char x ++ escaped (drop (n + 1) all)) (sym h.1)
