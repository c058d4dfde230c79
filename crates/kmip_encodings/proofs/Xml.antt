-- What is written of a tree as XML is an element.
use Rattle.std.proofs.Common.{◌≡◌, ℕ, zero, suc, ◌-◌, Bool, true, false, cond, ◌&&◌, nat_eq, nat_lt, List, [], ◌∷◌, ◌++◌, codes, drop, Option, Some, None, refl, sym, ap, ◌∙◌, subst, append_assoc, arith}
use Rattle.std.specs.List.{slice_get}
use Rattle.std.specs.Option.{unwrap_or}
use Rattle.std.specs.Char.{encode_utf8}
use Rattle.std.specs.Str.{chars}
use Rattle.std.specs.Fmt.{digits}
use Rattle.std.specs.Int.{w32, to_be_bytes}
use Rattle.std.proofs.lemmas.Bool.Decides.{nat_tests}
use Rattle.std.proofs.lemmas.Option.{same_Some, none-some}
use Rattle.kmip_tags.specs.Table.{first_tag, names}
use Rattle.kmip_wire.specs.declared.kind.Kind.{Kind}
use Rattle.kmip_wire.specs.Kinds.{kind_of_scalar}
use Rattle.kmip_wire.specs.Names.{kind_name}
use Rattle.kmip_wire.specs.Tree.{Tree, Trees, scalar, structure, none, more}
use Rattle.kmip_shape.specs.Shape.{named_among}
use Rattle.kmip_tags.specs.Tags.{ATTRIBUTE_VALUE}
use Rattle.kmip_encodings.specs.Context.{place, named_after}
use Rattle.kmip_encodings.specs.Words.{words, tag_word}
use Rattle.kmip_encodings.specs.Texts.{hex_text}
use Rattle.kmip_encodings.specs.XmlGrammar.{is_xml_char, AreCharacters, NoCharacter, AsItIs, ByName, ByNumber, is_name, AreAttributes, NoAttribute, AnAttribute, IsElement, Empty, Around, AreElements, NoElement, AnElement}
use Rattle.kmip_encodings.specs.Xml.{replacement, xml_char, escaped, attribute_xml, value_text, name_xml, xml_at, xml_of, items_xml}

-- ---- names

abbrev are_names : List (List ℕ) → Bool
are_names [] = true
are_names (word ∷ words) = is_name word && are_names words

both : (a b : Bool) → a && b ≡ true → (a ≡ true) × (b ≡ true)
both true b e = (refl, e)
both false b e = absurd (cc)

one_named : (ws : List (List ℕ)) (i : ℕ) (word : List ℕ) → are_names ws ≡ true → slice_get ws i ≡ Some word
    → is_name word ≡ true
one_named [] i word h e = absurd (none-some word e)
one_named (w ∷ ws) zero word h e = ap is_name (sym (same_Some w word e)) ∙ (both (is_name w) (are_names ws) h).0
one_named (w ∷ ws) (suc i) word h e = one_named ws i word (both (is_name w) (are_names ws) h).1 e

words_named : are_names words ≡ true
unfolding words names
words_named = refl

word_named : (tag : ℕ) (word : List ℕ) → tag_word tag ≡ Some word → is_name word ≡ true
word_named tag word e = go (nat_lt tag first_tag) e
  where
    go : (t : Bool) → cond t None (slice_get words (tag - first_tag)) ≡ Some word → is_name word ≡ true
    go true k = absurd (none-some word k)
    go false k = one_named words (tag - first_tag) word words_named k

-- ---- values

char_is : (c : ℕ) (s : List ℕ) → AreCharacters s → AreCharacters (xml_char c ++ s)
unfolding encode_utf8 digits
char_is c s h = go (nat_eq c 34) (nat_eq c 38) (nat_eq c 60) (nat_eq c 62) (nat_eq c 9) (nat_eq c 10)
    (nat_eq c 13) (is_xml_char c) refl refl refl refl
  where
    go : (q a l g t n r x : Bool) → nat_eq c 34 ≡ q → nat_eq c 38 ≡ a → nat_eq c 60 ≡ l → is_xml_char c ≡ x
        → AreCharacters (cond q (codes "&quot;") (cond a (codes "&amp;") (cond l (codes "&lt;")
        (cond g (codes "&gt;") (cond t (codes "&#9;") (cond n (codes "&#10;") (cond r (codes "&#13;")
        (cond x (encode_utf8 c) replacement))))))) ++ s)
    go true a l g t n r x eq ea el ex = ByName (codes "quot") s refl h
    go false true l g t n r x eq ea el ex = ByName (codes "amp") s refl h
    go false false true g t n r x eq ea el ex = ByName (codes "lt") s refl h
    go false false false true t n r x eq ea el ex = ByName (codes "gt") s refl h
    go false false false false true n r x eq ea el ex = ByNumber 9 s refl h
    go false false false false false true r x eq ea el ex = ByNumber 10 s refl h
    go false false false false false false true x eq ea el ex = ByNumber 13 s refl h
    go false false false false false false false true eq ea el ex =
        let no_quote : c ≡ 34 → ⊥ = grind (arith, nat_tests) in
        let no_reference : c ≡ 38 → ⊥ = grind (arith, nat_tests) in
        let no_tag : c ≡ 60 → ⊥ = grind (arith, nat_tests) in
        AsItIs c s ex no_quote no_reference no_tag h
    go false false false false false false false false eq ea el ex =
        AsItIs 0xFFFD s refl (λ e. omega arith) (λ e. omega arith) (λ e. omega arith) h

escaped_is : (cs : List ℕ) → AreCharacters (escaped cs)
escaped_is [] = NoCharacter
escaped_is (c ∷ cs) = char_is c (escaped cs) (escaped_is cs)

-- ---- attributes

attribute_is : (name value : List ℕ) (names : List (List ℕ)) (s : List ℕ) → is_name name ≡ true
    → named_among name names ≡ false → AreAttributes names s
    → AreAttributes (name ∷ names) (attribute_xml name value ++ s)
attribute_is name value names s n once h =
    let v : List ℕ = escaped (chars value) in
    let same : 32 ∷ (name ++ 61 ∷ 34 ∷ (v ++ 34 ∷ s)) ≡ (32 ∷ (name ++ 61 ∷ 34 ∷ (v ++ 34 ∷ []))) ++ s =
    simp append_assoc in
    subst (AreAttributes (name ∷ names)) same (AnAttribute name v names s n once (escaped_is (chars value)) h)

last_is : (name value : List ℕ) → is_name name ≡ true → AreAttributes (name ∷ []) (attribute_xml name value)
last_is name value n = AnAttribute name (escaped (chars value)) [] [] n refl (escaped_is (chars value)) NoAttribute

-- the attributes of an item that is no structure
abbrev shown : Kind → List ℕ → List ℕ
shown kind value = attribute_xml (codes "type") (kind_name kind) ++ attribute_xml (codes "value") value

shown_is : (kind : Kind) (value : List ℕ) → AreAttributes (codes "type" ∷ codes "value" ∷ []) (shown kind value)
shown_is kind value = attribute_is (codes "type") (kind_name kind) (codes "value" ∷ [])
    (attribute_xml (codes "value") value) refl refl (last_is (codes "value") value refl)

-- the attribute of a tag that has no name
abbrev tag_shown : ℕ → List ℕ
tag_shown tag = attribute_xml (codes "tag") (hex_text (drop 1 (to_be_bytes w32 tag)))

-- ---- elements

abbrev AllNamed : Option (List ℕ) → Type 0
AllNamed o = (word : List ℕ) → o ≡ Some word → is_name word ≡ true

item_is : (o : Option (List ℕ)) (tag : ℕ) (kind : Kind) (value : List ℕ) → AllNamed o
    → IsElement ((60 ∷ name_xml o tag) ++ (attribute_xml (codes "type") (kind_name kind)
    ++ (attribute_xml (codes "value") value ++ codes "/>")))
item_is (Some word) tag kind value named =
    subst (λ (l : List ℕ). IsElement (60 ∷ (word ++ l)))
    (append_assoc (attribute_xml (codes "type") (kind_name kind)) (attribute_xml (codes "value") value) (codes "/>"))
    (Empty word (shown kind value) (codes "type" ∷ codes "value" ∷ []) (named word refl) (shown_is kind value))
item_is None tag kind value named =
    subst (λ (l : List ℕ). IsElement (60 ∷ (codes "TTLV" ++ l)))
    (append_assoc (tag_shown tag) (shown kind value) (codes "/>")
    ∙ ap (λ (l : List ℕ). tag_shown tag ++ l)
    (append_assoc (attribute_xml (codes "type") (kind_name kind)) (attribute_xml (codes "value") value) (codes "/>")))
    (Empty (codes "TTLV") (tag_shown tag ++ shown kind value) (codes "tag" ∷ codes "type" ∷ codes "value" ∷ []) refl
    (attribute_is (codes "tag") (hex_text (drop 1 (to_be_bytes w32 tag))) (codes "type" ∷ codes "value" ∷ [])
    (shown kind value) refl refl (shown_is kind value)))

around_is : (o : Option (List ℕ)) (tag : ℕ) (contents : List ℕ) → AllNamed o → AreElements contents
    → IsElement ((60 ∷ name_xml o tag) ++ (62 ∷ (contents ++ 60 ∷ 47 ∷ (unwrap_or o (codes "TTLV") ++ 62 ∷ []))))
around_is (Some word) tag contents named h = Around word [] contents [] (named word refl) NoAttribute h
around_is None tag contents named h = Around (codes "TTLV") (tag_shown tag) contents (codes "tag" ∷ []) refl
    (last_is (codes "tag") (hex_text (drop 1 (to_be_bytes w32 tag))) refl) h

mutual
  tree_is_at : (t : Tree) (named : ℕ) → IsElement (xml_at named t)
  tree_is_at (scalar tag s) named =
      item_is (tag_word tag) tag (kind_of_scalar s) (value_text (place named tag) s) (word_named tag)
  tree_is_at (structure tag ts) named =
      around_is (tag_word tag) tag (items_xml ATTRIBUTE_VALUE ts) (word_named tag) (trees_are ts ATTRIBUTE_VALUE)

  trees_are : (ts : Trees) (named : ℕ) → AreElements (items_xml named ts)
  trees_are none named = NoElement
  trees_are (more t ts) named =
      AnElement (xml_at named t) (items_xml (named_after named t) ts) (tree_is_at t named)
      (trees_are ts (named_after named t))

pub tree_is : (t : Tree) → IsElement (xml_of t)
tree_is t = tree_is_at t ATTRIBUTE_VALUE
