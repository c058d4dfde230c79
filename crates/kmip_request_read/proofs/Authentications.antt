-- What is read in the place of an Authentication is the item of a credential, and in a message that
-- parses the texts of that credential are UTF-8.
use Rattle.std.proofs.Common.{◌≡◌, ℕ, pos, Bool, true, false, cond, List, [], ◌∷◌, ◌++◌, Option, Some, None, refl, sym, ◌∙◌, ap, subst, ◌⊎◌, inl, inr}
use Rattle.kmip_tags.specs.Tags.{AUTHENTICATION}
use Rattle.std.specs.Prelude.{IsUtf8, IfSome, nat_eq, filter, ◌||◌}
use Rattle.std.specs.Cmp.{unsigned_Decides}
use Rattle.std.specs.Option.{option_map, option_and_then}
use Rattle.kmip_wire.specs.Tree.{Tree}
use Rattle.kmip_wire.specs.Parts.{children_in, text_in, enumeration_in}
use Rattle.kmip_wire.specs.Parses.{Parses}
use Rattle.kmip_wire.specs.declared.kind.Kind.TheVariants.{TextString}
use Rattle.kmip_shape.specs.Val.{Val, Field, Fields, Number, Text, Record, Case, Absent, One, Many, NoField, AndField}
use Rattle.kmip_shape.specs.Shape.{Shape, RowList, Cases, Mark, Required, Optional, AnyNumber, AtLeastOne, OptionalList, Scalar, OneOf, Rows, Choice, OfNumber, NoRow, AndRow, NoCase, OuterValue, no_outer, outer_for, chosen_after, chosen_by, in_place, in_table, among, number_key}
use Rattle.kmip_shape.specs.Trees.{trees_in}
use Rattle.kmip_shape.specs.Reads.{read_in, read_rows, read_case, marked_field, with_field}
use Rattle.kmip_shape.proofs.Parts.{none_some, some_same}
use Rattle.kmip_enums.specs.CredentialTypes.{credential_types}
use Rattle.kmip_types.specs.declared.auth.CredentialType.{CredentialType}
use Rattle.kmip_types.specs.declared.auth.CredentialType.TheVariants.{UsernameAndPassword}
use Rattle.kmip_request.specs.declared.authentication.CredentialValue.TheVariants as values
use Rattle.kmip_request.specs.Tables.{authentication, credential, credential_values, username_and_password}
use Rattle.kmip_request.specs.Values.{credential_value_val}
use Rattle.kmip_request.specs.Message.{authentication_trees, header_tree, message_tree}
use Rattle.kmip_request.specs.Fits.{FitsCredential}
use Rattle.kmip_request_read.proofs.Options.{and_then_some, map_some, test_some}
use Rattle.kmip_request_read.proofs.Canonical.{password_of}

-- ---- what was read of rows

-- the value was read from some item
abbrev pub Reads : Shape → OuterValue → Val → Type 0
Reads shape outer v = (t : Tree) × (read_in shape NoCase outer t ≡ Some v)

-- the field is one that its mark allows, and its value was read
abbrev pub FieldReads : Mark → Shape → OuterValue → Field → Type 0
FieldReads Required shape outer d = (v : Val) × (d ≡ One v) × Reads shape outer v
FieldReads Optional shape outer d = (d ≡ Absent) ⊎ ((v : Val) × (d ≡ One v) × Reads shape outer v)
FieldReads _ shape outer d = Unit {0}

-- there is such a field for each row
abbrev pub RowsRead : RowList → OuterValue → OuterValue → Fields → Type 0
RowsRead NoRow outer chosen fs = fs ≡ NoField
RowsRead (AndRow name place mark role shape rows) outer chosen fs =
    (d : Field) × (gs : Fields) × (fs ≡ AndField d gs)
    × FieldReads mark shape (outer_for role outer chosen) d
    × RowsRead rows outer (chosen_after role d chosen) gs

marked : (mark : Mark) (shape : Shape) (outer : OuterValue) (ts : List Tree) (d : Field)
    → marked_field mark (read_in shape NoCase outer) ts ≡ Some d → FieldReads mark shape outer d
marked Required shape outer [] d h = none_some _ h
marked Required shape outer (t ∷ []) d h =
    let m = map_some (read_in shape NoCase outer t) One d h in (m.0, sym m.2, (t, m.1))
marked Required shape outer (t ∷ u ∷ ts) d h = none_some _ h
marked Optional shape outer [] d h = inl (sym (some_same Absent d h))
marked Optional shape outer (t ∷ []) d h =
    let m = map_some (read_in shape NoCase outer t) One d h in inr (m.0, sym m.2, (t, m.1))
marked Optional shape outer (t ∷ u ∷ ts) d h = none_some _ h
marked AnyNumber shape outer ts d h = tt
marked AtLeastOne shape outer ts d h = tt
marked OptionalList shape outer ts d h = tt

first_field : (o : Option Field) (rest : Field → Option Fields) (fs : Fields)
    → with_field o rest ≡ Some fs → (d : Field) × (gs : Fields) × (fs ≡ AndField d gs)
    × (o ≡ Some d) × (rest d ≡ Some gs)
first_field None rest fs h = none_some _ h
first_field (Some d) rest fs h = let m = map_some (rest d) (AndField d) fs h in (d, m.0, sym m.2, refl, m.1)

rows_read : (rows : RowList) (outer chosen : OuterValue) (ts : List Tree) (fs : Fields)
    → read_rows rows outer chosen ts ≡ Some fs → RowsRead rows outer chosen fs
rows_read NoRow outer chosen ts fs h = sym (some_same NoField fs h)
rows_read (AndRow name place mark role shape rows) outer chosen ts fs h =
    let own = outer_for role outer chosen in
    let items = filter (in_place place shape own) ts in
    let f = first_field (marked_field mark (read_in shape NoCase own) items)
    (λ d. read_rows rows outer (chosen_after role d chosen) ts) fs h in
    (f.0, f.1, f.2, marked mark shape own items f.0 f.3, rows_read rows outer (chosen_after role f.0 chosen) ts f.1 f.4)

-- a record has a field for each of its rows
pub record_read : (rows : RowList) (outer : OuterValue) (v : Val) → Reads (Rows rows) outer v
    → (fs : Fields) × (v ≡ Record fs) × RowsRead rows outer no_outer fs
record_read rows outer v r =
    let c = and_then_some (children_in r.0) (λ trees. option_map Record (read_rows rows outer no_outer trees)) v r.1 in
    let m = map_some (read_rows rows outer no_outer c.0) Record v c.2 in
    (m.0, sym m.2, rows_read rows outer no_outer c.0 m.0 m.1)

-- the rows of a record
abbrev pub rows_of : Shape → RowList
rows_of (Rows rows) = rows
rows_of _ = NoRow

-- ---- the credential

text_read : (outer : OuterValue) (v : Val) → Reads (Scalar TextString) outer v → (s : List ℕ) × (v ≡ Text s)
text_read outer v r = let m = map_some (text_in r.0) Text v r.1 in (m.0, sym m.2)

-- a value of a table is a number
entry_read : (outer : OuterValue) (v : Val) → Reads (OneOf credential_types) outer v → (n : ℕ) × (v ≡ Number (pos n))
entry_read outer v r =
    let read : ℕ → Option Val = λ n. cond (in_table n credential_types) (Some (Number (pos n))) None in
    let e = and_then_some (enumeration_in r.0) read v r.1 in
    let t = test_some (in_table e.0 credential_types) (Some (Number (pos e.0))) v e.2 in
    (e.0, sym (some_same (Number (pos e.0)) v t.1))

-- the value of a username and a password
abbrev value_of : List ℕ → Option (List ℕ) → Val
value_of username password = credential_value_val
    (values.UsernameAndPassword (record { 0 = username }) (option_map password_of password))

user_read : (outer : OuterValue) (v : Val) → Reads username_and_password outer v
    → (username : List ℕ) × (password : Option (List ℕ)) × (Case 1 v ≡ value_of username password)
user_read outer v r =
    let all = record_read (rows_of username_and_password) outer v r in
    let first = all.2 in
    let username = text_read outer first.3.0 first.3.2 in
    let second = first.4 in go username.0 second.3 all.1 first.2 first.3.1 username.1 second.2 second.4
  where
    go : {first : Val} {fs gs hs : Fields} {c d : Field} (username : List ℕ)
        → FieldReads Optional (Scalar TextString) outer d → v ≡ Record fs → fs ≡ AndField c gs
        → c ≡ One first → first ≡ Text username → gs ≡ AndField d hs → hs ≡ NoField
        → (name : List ℕ) × (password : Option (List ℕ)) × (Case 1 v ≡ value_of name password)
    go username (inl absent) a b e f g h = (username, None, cc)
    go username (inr (w, is, read)) a b e f g h =
        let password = text_read outer w read in
        let last : w ≡ Text password.0 = password.1 in
        (username, Some password.0, cc)

one_of : (n : ℕ) → among n (1 ∷ []) ≡ true → n ≡ 1
one_of n h = go (nat_eq 1 n) refl h
  where
    go : (b : Bool) → nat_eq 1 n ≡ b → (b || false) ≡ true → n ≡ 1
    go true e h = sym ((unsigned_Decides 1 n).0 e)
    go false e h = absurd (cc)

value_read : (outer : OuterValue) (v : Val) → Reads (Choice OfNumber credential_values) outer v
    → (username : List ℕ) × (password : Option (List ℕ)) × (v ≡ value_of username password)
    × (outer.number ≡ Some 1)
value_read outer v r = go outer.number r.1
  where
    go : (n : Option ℕ) → read_case credential_values credential_values (number_key n) outer r.0 ≡ Some v
        → (username : List ℕ) × (password : Option (List ℕ)) × (v ≡ value_of username password) × (n ≡ Some 1)
    go None h = none_some _ h
    go (Some n) h =
        let t = test_some (among n (1 ∷ []))
        (option_map (Case 1) (read_in username_and_password NoCase outer r.0)) v h in
        let m = map_some (read_in username_and_password NoCase outer r.0) (Case 1) v t.1 in
        let u = user_read outer m.0 (r.0, m.1) in
        (u.0, u.1, sym m.2 ∙ u.2, ap Some (one_of n t.0))

-- the value of a credential
abbrev credential_record : List ℕ → Option (List ℕ) → Val
credential_record username password =
    Record (AndField (One (Number (pos 1))) (AndField (One (value_of username password)) NoField))

credential_read : (outer : OuterValue) (v : Val) → Reads credential outer v → (username : List ℕ)
    × (password : Option (List ℕ)) × (v ≡ credential_record username password)
credential_read outer v r =
    let all = record_read (rows_of credential) outer v r in
    let first = all.2 in
    let kind = entry_read outer first.3.0 first.3.2 in
    let second = first.4 in
    let chooser : first.0 ≡ One (Number (pos kind.0)) = first.3.1 ∙ ap One kind.1 in
    let value = value_read (chosen_by first.0) second.3.0 second.3.2 in
    let number : Some kind.0 ≡ Some 1 = ap (λ (d : Field). (chosen_by d).number) (sym chooser) ∙ value.3 in
    let is_one : kind.0 ≡ 1 = some_same kind.0 1 number in
    let last : second.0 ≡ One (value_of value.0 value.1) = second.3.1 ∙ ap One value.2 in (
      value.0,
      value.1,
      go all.0 first.1 second.1 first.0 second.0 kind.0
          (value_of value.0 value.1) all.1 first.2 chooser is_one second.2 last second.4,
    )
  where
    go : (fs gs hs : Fields) (c d : Field) (n : ℕ) (w : Val) → v ≡ Record fs → fs ≡ AndField c gs
        → c ≡ One (Number (pos n)) → n ≡ 1 → gs ≡ AndField d hs → d ≡ One w → hs ≡ NoField
        → v ≡ Record (AndField (One (Number (pos 1))) (AndField (One w) NoField))
    go fs gs hs c d n w h i j k l m o = cc

-- the value of its Authentication
abbrev authentication_record : List ℕ → Option (List ℕ) → Val
authentication_record username password = Record (AndField (One (credential_record username password)) NoField)

authentication_read : (outer : OuterValue) (v : Val) → Reads authentication outer v
    → (username : List ℕ) × (password : Option (List ℕ))
    × (v ≡ authentication_record username password)
authentication_read outer v r =
    let all = record_read (rows_of authentication) outer v r in
    let first = all.2 in
    let c = credential_read outer first.3.0 first.3.2 in
    (c.0, c.1, go all.0 first.1 first.0 first.3.0 (credential_record c.0 c.1) all.1 first.2 first.3.1 c.2 first.4)
  where
    go : (fs gs : Fields) (d : Field) (u w : Val) → v ≡ Record fs → fs ≡ AndField d gs → d ≡ One u
        → u ≡ w → gs ≡ NoField → v ≡ Record (AndField (One w) NoField)
    go fs gs d u w h i j k l = cc

-- the credential of a username and a password
abbrev credential_with : List ℕ → Option (List ℕ) → CredentialType
credential_with username password = UsernameAndPassword (record { username = username; password = password })

-- its items are those of the credential
credential_trees : (username : List ℕ) (password : Option (List ℕ))
    → trees_in (One (authentication_record username password)) NoCase authentication AUTHENTICATION
    ≡ Some (authentication_trees (Some (credential_with username password)))
credential_trees username None = refl
credential_trees username (Some password) = refl

-- a field that was read in the place of an Authentication has the items of a credential
pub field_trees_are : (outer : OuterValue) (d : Field) → FieldReads Optional authentication outer d
    → (c : Option CredentialType)
    × (trees_in d NoCase authentication AUTHENTICATION ≡ Some (authentication_trees c))
field_trees_are outer d (inl absent) =
    (None, ap (λ (x : Field). trees_in x NoCase authentication AUTHENTICATION) absent)
field_trees_are outer d (inr (v, is, read)) =
    let a = authentication_read outer v read in
    let whole : d ≡ One (authentication_record a.0 a.1) = is ∙ ap One a.2 in (
      Some (credential_with a.0 a.1),
      ap
          (λ (x : Field). trees_in x NoCase authentication AUTHENTICATION) whole
          ∙ credential_trees a.0 a.1,
    )

-- ---- the texts of a credential

pub texts_parse : (minor operation : ℕ) (c : Option CredentialType) (payload : Tree) (b : List ℕ)
    → Parses (message_tree (header_tree minor (authentication_trees c)) operation payload) 1 b
    → FitsCredential c
texts_parse minor operation None payload b p = tt
texts_parse minor operation (Some (UsernameAndPassword c)) payload b p = go c.password p
  where
    go : (password : Option (List ℕ)) → Parses
        (message_tree (header_tree minor
        (authentication_trees (Some (UsernameAndPassword
        (record { username = c.username; password = password }))))) operation payload) 1 b
        → IsUtf8 c.username × IfSome password (λ text. IsUtf8 text)
    go None p =
        let value = (((((p.value.2).value.3.2).value.2).value.3.2).value) in
        let username = value.2.value in
        (subst (λ (s : List ℕ). IsUtf8 s) (sym username.1) username.0, tt)
    go (Some password) p =
        let value = (((((p.value.2).value.3.2).value.2).value.3.2).value) in
        let username = value.2.value in
        let text = value.3.2.value in (
          subst (λ (s : List ℕ). IsUtf8 s) (sym username.1) username.0,
          subst (λ (s : List ℕ). IsUtf8 s) (sym text.1) text.0,
        )
