-- The JSON of a value that fits its shape is a text of the grammar.
use Rattle.std.proofs.Common.{◌≡◌, ℕ, ◌+◌, ◌/◌, ◌%◌, ◌≤◌, ◌<◌, ℤ, pos, negsuc, Bool, true, false, cond, ◌||◌, nat_eq, nat_lt, List, [], ◌∷◌, ◌++◌, flat_map, Option, Some, None, ◌⊎◌, inl, inr, refl, sym, ap, ◌∙◌, subst, append_assoc, append-nil, arith}
use Rattle.std.proofs.lemmas.Bool.Decides.{nat_tests}
use Rattle.std.specs.Int.{cast_signed, w64}
use Rattle.kmip_wire.specs.declared.kind.Kind.TheVariants as kind
use Rattle.kmip_shape.specs.declared.style.Style.{Style}
use Rattle.kmip_shape.specs.declared.style.Style.TheVariants.{Json}
use Rattle.kmip_shape.specs.Val.{Val, Vals, Fields, Number, Text, Bytes, Truth, Record, Case, Absent, One, Many, NoField, AndField, NoVal, AndVal}
use Rattle.kmip_shape.specs.Shape.{Shape, RowList, Cases, Entry, Found, Scalar, OneOf, Rows, RowsOrBytes, Choice, Custom, NoRow, AndRow, NoCase, OfName, case_at}
use Rattle.kmip_shape.specs.Fits.{AreBytes, leaf_fits, fits_in, fields_fit, vals_fit}
use Rattle.kmip_shape.specs.Shown.{hex_digit, hex_byte, control_mark, escape, text_in_style, truth_shown, word, name_mark, entry_in_style, leaf_in_style, comma, case_in_style, val_in_style, fields_in_style, list_in_style}
use Rattle.kmip_shape.specs.Json.{IsHexDigit, AreCharacters, NoCharacter, AsItIs, Quote, Backslash, Coded, IsJson, AString, ANumber, True, False, NoMember, AnObject, NoElement, AnArray, AreMembers, AMember, AndMembers, AreElements, AnElement, AndElements}

digit_is_hex : (m : ℕ) → m < 16 → IsHexDigit (hex_digit m)
digit_is_hex m h = go (nat_lt m 10) refl
  where
    go : (t : Bool) → nat_lt m 10 ≡ t → IsHexDigit (cond t (48 + m) (55 + m))
    go true e = let l : m < 10 = grind (arith, nat_tests) in inl (omega arith, omega arith)
    go false e = let l : 10 ≤ m = grind (arith, nat_tests) in inr (omega arith, omega arith)

coded : (n : ℕ) (s : List ℕ) → n < 256 → AreCharacters s → AreCharacters ((control_mark Json ++ hex_byte n) ++ s)
coded n s l h =
    let zero : IsHexDigit 48 = inl (omega arith, omega arith) in
    Coded 48 48 (hex_digit (n / 16)) (hex_digit (n % 16)) s zero zero
    (digit_is_hex (n / 16) (omega arith)) (digit_is_hex (n % 16) (omega arith)) h

character_is : (n : ℕ) (s : List ℕ) → AreCharacters s → AreCharacters (escape Json n ++ s)
character_is n s h = go (nat_eq n 34) (nat_eq n 92) (nat_lt n 32) (nat_eq n 127) refl refl refl refl
  where
    go : (a b c d : Bool) → nat_eq n 34 ≡ a → nat_eq n 92 ≡ b → nat_lt n 32 ≡ c → nat_eq n 127 ≡ d
        → AreCharacters (cond (a || b) (92 ∷ n ∷ []) (cond (c || d) (control_mark Json ++ hex_byte n) (n ∷ [])) ++ s)
    go true b c d ea eb ec ed =
        let e : n ≡ 34 = grind (arith, nat_tests) in
        subst (λ (m : ℕ). AreCharacters (92 ∷ m ∷ s)) (sym e) (Quote s h)
    go false true c d ea eb ec ed =
        let e : n ≡ 92 = grind (arith, nat_tests) in
        subst (λ (m : ℕ). AreCharacters (92 ∷ m ∷ s)) (sym e) (Backslash s h)
    go false false true d ea eb ec ed = let l : n < 32 = grind (arith, nat_tests) in coded n s (omega arith) h
    go false false false true ea eb ec ed = let e : n ≡ 127 = grind (arith, nat_tests) in coded n s (omega arith) h
    go false false false false ea eb ec ed =
        let l : 32 ≤ n = grind (arith, nat_tests) in
        let q : n ≡ 34 → ⊥ = grind (arith, nat_tests) in
        let k : n ≡ 92 → ⊥ = grind (arith, nat_tests) in
        AsItIs n s l q k h

text_is : (s : List ℕ) → AreCharacters (flat_map (escape Json) s)
text_is [] = NoCharacter
text_is (n ∷ s) = character_is n (flat_map (escape Json) s) (text_is s)

digit_is : (m : ℕ) (s : List ℕ) → IsHexDigit m → AreCharacters s → AreCharacters (m ∷ s)
digit_is m s (inl p) h = let l = p.0 in let u = p.1 in AsItIs m s (omega arith) (λ e. omega arith) (λ e. omega arith) h
digit_is m s (inr p) h = let l = p.0 in let u = p.1 in AsItIs m s (omega arith) (λ e. omega arith) (λ e. omega arith) h

bytes_are : (b : List ℕ) → AreBytes b → AreCharacters (flat_map hex_byte b)
bytes_are [] h = NoCharacter
bytes_are (n ∷ b) h =
    let l : n < 256 = h.0 in
    digit_is (hex_digit (n / 16)) _ (digit_is_hex (n / 16) (omega arith))
    (digit_is (hex_digit (n % 16)) _ (digit_is_hex (n % 16) (omega arith)) (bytes_are b h.1))

bytes_below : (shape : Shape) (b : List ℕ) → leaf_fits shape (Bytes b) → AreBytes b
bytes_below (Scalar kind.BigInteger) b h = h
bytes_below (Scalar kind.ByteString) b h = h
bytes_below (Scalar kind.Structure) b h = absurd h
bytes_below (Scalar kind.Integer) b h = absurd h
bytes_below (Scalar kind.LongInteger) b h = absurd h
bytes_below (Scalar kind.Enumeration) b h = absurd h
bytes_below (Scalar kind.Boolean) b h = absurd h
bytes_below (Scalar kind.TextString) b h = absurd h
bytes_below (Scalar kind.DateTime) b h = absurd h
bytes_below (Scalar kind.Interval) b h = absurd h
bytes_below (OneOf entries) b h = absurd h
bytes_below (Rows rows) b h = absurd h
bytes_below (RowsOrBytes n rows) b h = absurd h
bytes_below (Choice rule cases) b h = absurd h
bytes_below Custom b h = absurd h

truth_is : (b : Bool) → IsJson (truth_shown b)
truth_is true = True
truth_is false = False

entry_is : (entries : List Entry) (n : ℕ) → IsJson (entry_in_style entries n Json)
entry_is [] n = ANumber (pos n)
entry_is (entry ∷ entries) n = go (nat_eq entry.number n) (entry_is entries n)
  where
    go : (t : Bool) → IsJson (entry_in_style entries n Json)
        → IsJson (cond t (word entry.name Json) (entry_in_style entries n Json))
    go true h = AString _ (text_is entry.name)
    go false h = h

leaf_is : (shape : Shape) (z : ℤ) → IsJson (leaf_in_style shape z Json)
leaf_is (OneOf entries) (pos n) = entry_is entries n
leaf_is (OneOf entries) (negsuc n) = ANumber (negsuc n)
leaf_is (Scalar kind.DateTime) (pos n) = ANumber (cast_signed w64 n)
leaf_is (Scalar k) z = ANumber z
leaf_is (Rows rows) z = ANumber z
leaf_is (RowsOrBytes m rows) z = ANumber z
leaf_is (Choice rule cases) z = ANumber z
leaf_is Custom z = ANumber z

-- a name, a colon and a value
member_is : (name value : List ℕ) → IsJson value → AreMembers (word name Json ++ (name_mark Json ++ value))
member_is name value h =
    subst AreMembers (ap (λ z. 34 ∷ z)
    (sym (append_assoc (flat_map (escape Json) name) (34 ∷ []) (58 ∷ value))))
    (AMember _ value (text_is name) h)

case_is : (val : Val) (name : List ℕ) (text : Style → List ℕ) → IsJson (text Json)
    → IsJson (case_in_style val name text Json)
case_is val name text h = go val
  where
    one : IsJson (123 ∷ (text_in_style name Json ++ 58 ∷ (text Json ++ 125 ∷ [])))
    one = subst (λ (z : List ℕ). IsJson (123 ∷ z))
        (append_assoc (text_in_style name Json) (58 ∷ text Json) (125 ∷ []))
        (AnObject _ (member_is name (text Json) h))

    go : (v : Val) → IsJson (case_in_style v name text Json)
    go (Number z) = one
    go (Text s) = one
    go (Bytes b) = one
    go (Truth b) = one
    go (Record fields) = one
    go (Case n v) = one

-- what follows a part of a list: nothing, or a comma and further parts
abbrev Follows : (List ℕ → Type 0) → List ℕ → Type 0
Follows Parts t = (t ≡ []) ⊎ ((u : List ℕ) × (t ≡ 44 ∷ u) × Parts u)

-- parts of a list, after others or not
abbrev Continues : (List ℕ → Type 0) → Bool → List ℕ → Type 0
Continues Parts true t = Follows Parts t
Continues Parts false t = (t ≡ []) ⊎ Parts t

ends : (Parts : List ℕ → Type 0) (after : Bool) → Continues Parts after []
ends Parts true = inl refl
ends Parts false = inl refl

then : (Parts : List ℕ → Type 0) (and : (s t : List ℕ) → Parts s → Parts t → Parts (s ++ 44 ∷ t))
    (s t : List ℕ) → Parts s → Follows Parts t → Parts (s ++ t)
then Parts and s t h (inl e) = subst Parts (sym (ap (λ z. s ++ z) e ∙ append-nil s)) h
then Parts and s t h (inr p) = subst Parts (sym (ap (λ z. s ++ z) p.1)) (and s p.0 h p.2)

continued : (Parts : List ℕ → Type 0)
    (and : (s t : List ℕ) → Parts s → Parts t → Parts (s ++ 44 ∷ t)) (after : Bool) (s t : List ℕ)
    → Parts s → Follows Parts t → Continues Parts after (comma after ++ (s ++ t))
continued Parts and true s t h k = inr (s ++ t, refl, then Parts and s t h k)
continued Parts and false s t h k = inr (then Parts and s t h k)

object_is : (t : List ℕ) → Continues AreMembers false t → IsJson (123 ∷ (t ++ 125 ∷ []))
object_is t (inl e) = subst (λ (z : List ℕ). IsJson (123 ∷ (z ++ 125 ∷ []))) (sym e) NoMember
object_is t (inr h) = AnObject t h

array_is : (t : List ℕ) → Continues AreElements false t → IsJson (91 ∷ (t ++ 93 ∷ []))
array_is t (inl e) = subst (λ (z : List ℕ). IsJson (91 ∷ (z ++ 93 ∷ []))) (sym e) NoElement
array_is t (inr h) = AnArray t h

-- a field that stands, before the others
field_continues : (after : Bool) (s t : List ℕ) → AreMembers s → Follows AreMembers t
    → Continues AreMembers after ((comma after ++ s) ++ t)
field_continues after s t h k = subst (Continues AreMembers after)
    (sym (append_assoc (comma after) s t)) (continued AreMembers AndMembers after s t h k)

chosen_is : (cases : Cases) (n : ℕ) (val : Val)
    → elim (case_at cases n) as (λ _. Type 0) [ None ↦ ⊥ | Some c ↦ fits_in val cases c.shape ]
    → ((c : Found) → fits_in val cases c.shape → IsJson (val_in_style val cases c.shape Json))
    → IsJson (elim (case_at cases n) as
    (λ _. List ℕ) [
      | None ↦ []
      | Some c ↦ case_in_style val c.name
          (val_in_style val cases c.shape) Json
    ])
chosen_is cases n val h ih = go (case_at cases n) h
  where
    go : (o : Option Found) → elim o as (λ _. Type 0) [ None ↦ ⊥ | Some c ↦ fits_in val cases c.shape ]
        → IsJson (elim o as (λ _. List ℕ)
        [ None ↦ [] | Some c ↦ case_in_style val c.name (val_in_style val cases c.shape) Json ])
    go None k = absurd k
    go (Some c) k = case_is val c.name (val_in_style val cases c.shape) (ih c k)

mutual
  pub value_is : (val : Val) (around : Cases) (shape : Shape) → fits_in val around shape
      → IsJson (val_in_style val around shape Json)
  value_is (Number z) around shape h = leaf_is shape z
  value_is (Text s) around shape h = AString _ (text_is s)
  value_is (Bytes b) around shape h = AString _ (bytes_are b (bytes_below shape b h))
  value_is (Truth b) around shape h = truth_is b
  value_is (Record fields) around (Rows rows) h = object_is _ (fields_are fields NoCase rows false h)
  value_is (Record fields) around (RowsOrBytes n rows) h = object_is _ (fields_are fields NoCase rows false h)
  value_is (Record NoField) around Custom h = absurd h
  value_is (Record (AndField Absent fields)) around Custom h = absurd h.0
  value_is (Record (AndField (One val) fields)) around Custom h = absurd h.0
  value_is (Record (AndField (Many vals) fields)) around Custom h =
      array_is _ (vals_are vals NoCase (Choice OfName around) false h.1)
  value_is (Record fields) around (Scalar k) h = absurd h
  value_is (Record fields) around (OneOf entries) h = absurd h
  value_is (Record fields) around (Choice rule cases) h = absurd h
  value_is (Case n val) around (Choice rule cases) h = chosen_is cases n val h (λ c k. value_is val cases c.shape k)
  value_is (Case n val) around (Scalar k) h = absurd h
  value_is (Case n val) around (OneOf entries) h = absurd h
  value_is (Case n val) around (Rows rows) h = absurd h
  value_is (Case n val) around (RowsOrBytes m rows) h = absurd h
  value_is (Case n val) around Custom h = absurd h

  fields_are : (fields : Fields) (around : Cases) (rows : RowList) (after : Bool)
      → fields_fit fields around rows → Continues AreMembers after
      (fields_in_style fields around rows after Json)
  fields_are NoField around rows after h = ends AreMembers after
  fields_are (AndField field fields) around NoRow after h = absurd h
  fields_are (AndField Absent fields) around (AndRow name place mark role shape rows) true h =
      fields_are fields around rows true h.2
  fields_are (AndField Absent fields) around (AndRow name place mark role shape rows) false h =
      fields_are fields around rows false h.2
  fields_are (AndField (One val) fields) around (AndRow name place mark role shape rows) true h =
      field_continues true _ _ (member_is name _ (value_is val around shape h.1))
      (fields_are fields around rows true h.2)
  fields_are (AndField (One val) fields) around (AndRow name place mark role shape rows) false h =
      field_continues false _ _ (member_is name _ (value_is val around shape h.1))
      (fields_are fields around rows true h.2)
  fields_are (AndField (Many vals) fields) around (AndRow name place mark role shape rows) true h =
      field_continues true _ _ (member_is name _ (array_is _
      (vals_are vals around shape false h.1))) (fields_are fields around rows true h.2)
  fields_are (AndField (Many vals) fields) around (AndRow name place mark role shape rows) false h =
      field_continues false _ _ (member_is name _ (array_is _
      (vals_are vals around shape false h.1))) (fields_are fields around rows true h.2)

  vals_are : (vals : Vals) (around : Cases) (shape : Shape) (after : Bool)
      → vals_fit vals around shape → Continues AreElements after
      (list_in_style vals around shape after Json)
  vals_are NoVal around shape after h = ends AreElements after
  vals_are (AndVal val vals) around shape after h =
      continued AreElements AndElements after _ _ (AnElement _ (value_is val around shape h.0))
      (vals_are vals around shape true h.1)
