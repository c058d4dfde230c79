-- Reading the JSON of a tree gives the tree, and its text is a text of JSON.
use Rattle.std.proofs.Common.{◌≡◌, ◌≢◌, ℕ, zero, suc, ◌+◌, ◌*◌, ◌^◌, ◌<◌, ◌≤◌, true, false, cond, List, [], ◌∷◌, Option, Some, None, option_map, option_and_then, refl, ap, ◌∙◌, nat_lt, arith, ℤ, pos, negsuc}
use Rattle.std.proofs.lemmas.List.Elements.{All-nil, All-cons}
use Rattle.std.proofs.lemmas.List.Kept.{AllPairs-cons}
use Rattle.std.specs.Prelude.{All, AllPairs, codes, unsigned_abs, FitsSigned, Ok}
use lib.Signed.{mag}
use Rattle.std.specs.Result.{result_ok}
use Rattle.std.specs.Int.{w32, w64, to_be_bytes, cast_signed, cast_unsigned}
use Rattle.std.specs.Fmt.{signed_decimal}
use Rattle.std.proofs.lemmas.Bool.Decides.{nat_tests}
use Rattle.std.proofs.lemmas.Int.{to_z-of_z, ints}
use Rattle.hex.proofs.HexLemmas.{decode_of-encode_upper}
use Rattle.json.specs.Json as json
use Rattle.json.specs.Json.{Json, max_depth, document}
use Rattle.json.specs.Strict.{HasUniqueKeys, ItemsHaveUniqueKeys}
use Rattle.json.specs.Tree.{depth, items_depth, HasNumbers, ItemsHaveNumbers}
use Rattle.json.proofs.Printed.Decimals.{IsNumber-signed_decimal}
use Rattle.json.proofs.Printed.Trees.{document-print}
use Rattle.kmip_wire.specs.declared.kind.Kind.{Kind}
use Rattle.kmip_wire.specs.declared.kind.Kind.TheVariants.{Structure, Integer, LongInteger, BigInteger, Enumeration, Boolean, TextString, ByteString, DateTime, Interval}
use Rattle.kmip_wire.specs.Kinds.{kind_of_scalar}
use Rattle.kmip_wire.specs.Tree.{Tree, Trees, Scalar, scalar, structure, none, more, integer, long_integer, big_integer, enumeration, boolean, text_string, byte_string, date_time, interval}
use Rattle.kmip_wire.specs.Bytes.{levels, levels_of_all, IsInRange, HasRanges, HaveRanges}
use Rattle.kmip_wire.specs.Names.{kind_name}
use Rattle.kmip_encodings.specs.Texts.{hex_text, mask_text}
use Rattle.kmip_tags.specs.Tags.{ATTRIBUTE_VALUE}
use Rattle.kmip_encodings.specs.Context.{place, named_after}
use Rattle.kmip_encodings.specs.Encoding.{is_short, long_json, text_or_number, value_json, json_at, items_at, json_of, items_json, text_at, json_text}
use Rattle.kmip_encodings.specs.Reading.{kind_named, small_integer, small_natural, parts_read, node_read, structure_read, scalar_read, trees_read, within, named_from, items_by, read_item, tree_of, Read}
use Rattle.kmip_encodings.proofs.Back.{hex_back, long_back, tag_back, enumeration_back, date_back, whole_back}
use Rattle.kmip_encodings.proofs.Masked.{mask_back}

kind_back : (kind : Kind) → kind_named (kind_name kind) ≡ Some kind
kind_back Structure = refl
kind_back Integer = refl
kind_back LongInteger = refl
kind_back BigInteger = refl
kind_back Enumeration = refl
kind_back Boolean = refl
kind_back TextString = refl
kind_back ByteString = refl
kind_back DateTime = refl
kind_back Interval = refl

abs_small : (z : ℤ) → FitsSigned w32 z → unsigned_abs z < 2 ^ 53
abs_small (pos n) h = omega arith
abs_small (negsuc n) h = omega arith

small_back : (z : ℤ) → FitsSigned w32 z → small_integer z ≡ Some z
small_back (pos n) h = let small : nat_lt n (2 ^ 31) ≡ true = grind (arith, nat_tests) in rw small refl
small_back (negsuc n) h = let small : nat_lt n (2 ^ 31) ≡ true = grind (arith, nat_tests) in rw small refl

natural_back : (n : ℕ) → n < 2 ^ 32 → small_natural (pos n) ≡ Some n
natural_back n h = let small : nat_lt n (2 ^ 32) ≡ true = grind (arith, nat_tests) in rw small refl

is_short-abs : (z : ℤ) → is_short z ≡ true → unsigned_abs z < 2 ^ 52
is_short-abs z h = grind (arith, nat_tests)

signed_fits : (z : ℤ) → FitsSigned w64 z → cast_unsigned w64 z < 2 ^ 64
signed_fits z h = omega (arith, ints, h)

module _ (one : ℕ → Json → Read Tree) (named tag : ℕ) where
  long_is_back : (z : ℤ) → FitsSigned w64 z
      → node_read one named tag LongInteger (long_json z) ≡ Ok (scalar tag (long_integer z))
  long_is_back z h =
      elim (is_short z) as (λ b. is_short z ≡ b
      → node_read one named tag LongInteger
      (cond b (json.number (signed_decimal z))
      (json.string (hex_text (to_be_bytes w64 (cast_unsigned w64 z)))))
      ≡ Ok (scalar tag (long_integer z))) [
        | true ↦ λ e. let small : unsigned_abs z < 2 ^ 53 = omega (arith, is_short-abs z e) in
            rw (whole_back z small) refl
        | false ↦ λ e. ap (λ o. scalar_read tag LongInteger
            (option_map (λ n. long_integer (cast_signed w64 n)) o))
            (long_back (cast_unsigned w64 z) (signed_fits z h))
            ∙ ap (λ y. Ok (scalar tag (long_integer y))) (to_z-of_z w64 z h)
      ] refl

  integer_is_back : (z : ℤ) → FitsSigned w32 z
      → node_read one named tag Integer (text_or_number z (mask_text (codes "|") (place named tag) z))
      ≡ Ok (scalar tag (integer z))
  integer_is_back z h =
      let p = place named tag in
      elim (mask_text (codes "|") p z) as (λ o. mask_text (codes "|") p z ≡ o
      → node_read one named tag Integer (text_or_number z o) ≡ Ok (scalar tag (integer z))) [
        | None ↦ λ e. rw (whole_back z (abs_small z h), small_back z h) refl
        | Some s ↦ λ e. ap (λ o. scalar_read tag Integer (option_map (λ n. integer (cast_signed w32 n)) o))
            (mask_back p z s h e)
            ∙ ap (λ y. Ok (scalar tag (integer y))) (to_z-of_z w32 z h)
      ] refl

  scalar_back : (s : Scalar) → IsInRange s
      → node_read one named tag (kind_of_scalar s) (value_json (place named tag) s) ≡ Ok (scalar tag s)
  scalar_back (integer z) h = integer_is_back z h
  scalar_back (long_integer z) h = long_is_back z h
  scalar_back (big_integer b) h = ap (λ o. scalar_read tag BigInteger (option_map big_integer o)) (hex_back b h)
  scalar_back (enumeration n) h = ap (λ o. scalar_read tag Enumeration (option_map enumeration o))
      (enumeration_back (place named tag) n h)
  scalar_back (boolean b) h = refl
  scalar_back (text_string b) h = refl
  scalar_back (byte_string b) h = ap (λ r. scalar_read tag ByteString
      (option_map byte_string (result_ok r))) (decode_of-encode_upper b h)
  scalar_back (date_time n) h = ap (λ o. scalar_read tag DateTime (option_map date_time o)) (date_back n h)
  scalar_back (interval n) h =
      ap (λ o. scalar_read tag Interval (option_map interval (option_and_then small_natural o)))
      (whole_back (pos n) (omega arith))
      ∙ ap (λ o. scalar_read tag Interval (option_map interval o)) (natural_back n h)

mutual
  unfolding read_item

  pub item_back : (t : Tree) (n named : ℕ) → HasRanges t → levels t ≤ n → read_item n named (json_at None named t) ≡ Ok t
  item_back (scalar tag s) zero named h d = absurd (omega arith)
  item_back (structure tag ts) zero named h d = absurd (omega arith)
  item_back (scalar tag s) (suc n) named h d =
      let value = value_json (place named tag) s in
      ap (λ o. parts_read (read_item n) named o (kind_named (kind_name (kind_of_scalar s)))
      (Some value)) (tag_back tag h.0)
      ∙ ap (λ o. parts_read (read_item n) named (Some tag) o (Some value)) (kind_back (kind_of_scalar s))
      ∙ scalar_back (read_item n) named tag s h.1
  item_back (structure tag ts) (suc n) named h d =
      ap (λ o. parts_read (read_item n) named o (Some Structure) (Some (json.array (items_json ts)))) (tag_back tag h.0)
      ∙ ap (structure_read tag) (items_back ts n 0 ATTRIBUTE_VALUE h.1 (omega arith))

  items_back : (ts : Trees) (n index named : ℕ) → HaveRanges ts → levels_of_all ts ≤ n
      → items_by (read_item n) index named (items_at None named ts) ≡ Ok ts
  items_back none n index named h d = refl
  items_back (more t ts) n index named h d =
      ap (λ r. trees_read (within index r)
      (items_by (read_item n) (index + 1) (named_from named r) (items_at None (named_after named t) ts)))
      (item_back t n named h.0 (omega arith))
      ∙ ap (trees_read (Ok t)) (items_back ts n (index + 1) (named_after named t) h.1 (omega arith))

pub tree_back : (t : Tree) → HasRanges t → levels t ≤ 64 → tree_of (json_of t) ≡ Ok t
unfolding tree_of
tree_back t h d = item_back t 64 ATTRIBUTE_VALUE h d

-- ---- the text

flat_long : (z : ℤ) → depth (long_json z) ≡ 0
flat_long z = elim (is_short z)
    as (λ b. depth (cond b (json.number (signed_decimal z))
    (json.string (hex_text (to_be_bytes w64 (cast_unsigned w64 z))))) ≡ 0) [
      | true ↦ refl
      | false ↦ refl
    ]

flat_integer : (z : ℤ) (o : Option (List ℕ)) → depth (text_or_number z o) ≡ 0
flat_integer z None = refl
flat_integer z (Some s) = refl

pub flat : (tag : ℕ) (s : Scalar) → depth (value_json tag s) ≡ 0
flat tag (integer z) = flat_integer z (mask_text (codes "|") tag z)
flat tag (long_integer z) = flat_long z
flat tag (big_integer b) = refl
flat tag (enumeration n) = refl
flat tag (boolean b) = refl
flat tag (text_string b) = refl
flat tag (byte_string b) = refl
flat tag (date_time n) = refl
flat tag (interval n) = refl

mutual
  nests : (t : Tree) (named : ℕ) → depth (json_at None named t) ≤ 2 * levels t
  nests (scalar tag s) named = omega (arith, flat (place named tag) s)
  nests (structure tag ts) named = omega (arith, items_nest ts ATTRIBUTE_VALUE)

  items_nest : (ts : Trees) (named : ℕ) → items_depth (items_at None named ts) ≤ 2 * levels_of_all ts
  items_nest none named = omega arith
  items_nest (more t ts) named = omega (arith, nests t named, items_nest ts (named_after named t))

mag_of : (z : ℤ) → unsigned_abs z < 2 ^ 53 → mag z < 2 ^ 63
mag_of (pos n) h = omega arith
mag_of (negsuc n) h = omega arith

long_number : (z : ℤ) → HasNumbers (long_json z)
long_number z = elim (is_short z) as
    (λ b. is_short z ≡ b → HasNumbers
    (cond b (json.number (signed_decimal z))
    (json.string (hex_text (to_be_bytes w64 (cast_unsigned w64 z)))))) [
      | true ↦ λ e. IsNumber-signed_decimal z (mag_of z (omega (arith, is_short-abs z e)))
      | false ↦ λ e. tt
    ] refl

integer_number : (z : ℤ) (o : Option (List ℕ)) → FitsSigned w32 z → HasNumbers (text_or_number z o)
integer_number z None h = IsNumber-signed_decimal z (mag_of z (abs_small z h))
integer_number z (Some s) h = tt

pub number_is : (tag : ℕ) (s : Scalar) → IsInRange s → HasNumbers (value_json tag s)
number_is tag (integer z) h = integer_number z (mask_text (codes "|") tag z) h
number_is tag (long_integer z) h = long_number z
number_is tag (big_integer b) h = tt
number_is tag (enumeration n) h = tt
number_is tag (boolean b) h = tt
number_is tag (text_string b) h = tt
number_is tag (byte_string b) h = tt
number_is tag (date_time n) h = tt
number_is tag (interval n) h = IsNumber-signed_decimal (pos n) (mag_of (pos n) (omega arith))

mutual
  pub numbers : (t : Tree) (named : ℕ) → HasRanges t → HasNumbers (json_at None named t)
  numbers (scalar tag s) named h = (tt, (tt, (number_is (place named tag) s h.1, tt)))
  numbers (structure tag ts) named h = (tt, (items_numbers ts ATTRIBUTE_VALUE h.1, tt))

  items_numbers : (ts : Trees) (named : ℕ) → HaveRanges ts → ItemsHaveNumbers (items_at None named ts)
  items_numbers none named h = tt
  items_numbers (more t ts) named h = (numbers t named h.0, items_numbers ts (named_after named t) h.1)

pub text_back : (t : Tree) → HasRanges t → levels t ≤ 64 → document (json_text t) ≡ Some (json_of t)
unfolding text_at
text_back t h d = document-print (json_of t) (numbers t ATTRIBUTE_VALUE h) (omega (arith, nests t ATTRIBUTE_VALUE))

integer_unique : (z : ℤ) (o : Option (List ℕ)) → HasUniqueKeys (text_or_number z o)
integer_unique z None = tt
integer_unique z (Some s) = tt

pub value_unique : (tag : ℕ) (s : Scalar) → HasUniqueKeys (value_json tag s)
value_unique tag (integer z) = integer_unique z (mask_text (codes "|") tag z)
value_unique tag (long_integer z) =
    elim (is_short z) as (λ b. HasUniqueKeys
    (cond b (json.number (signed_decimal z))
    (json.string (hex_text (to_be_bytes w64 (cast_unsigned w64 z)))))) [
      | true ↦ tt
      | false ↦ tt
    ]
value_unique tag (big_integer b) = tt
value_unique tag (enumeration n) = tt
value_unique tag (boolean b) = tt
value_unique tag (text_string b) = tt
value_unique tag (byte_string b) = tt
value_unique tag (date_time n) = tt
value_unique tag (interval n) = tt

-- keys that differ

none_paired : AllPairs (λ (x y : List ℕ). x ≢ y) []
none_paired i j d a b = absurd (omega arith)

no_key : (P : List ℕ → Type 0) → All P []
no_key P = All-nil P

two_keys : (a b : List ℕ) → a ≢ b → AllPairs (λ (x y : List ℕ). x ≢ y) (a ∷ b ∷ [])
two_keys a b ab =
    AllPairs-cons (λ (x y : List ℕ). x ≢ y) a (b ∷ []) (All-cons (λ y. a ≢ y) b [] ab (All-nil (λ y. a ≢ y)))
    (AllPairs-cons (λ (x y : List ℕ). x ≢ y) b [] (All-nil (λ y. b ≢ y)) none_paired)

three_keys : (a b c : List ℕ) → a ≢ b → a ≢ c → b ≢ c → AllPairs (λ (x y : List ℕ). x ≢ y) (a ∷ b ∷ c ∷ [])
three_keys a b c ab ac bc =
    AllPairs-cons (λ (x y : List ℕ). x ≢ y) a (b ∷ c ∷ [])
    (All-cons (λ y. a ≢ y) b (c ∷ []) ab (All-cons (λ y. a ≢ y) c [] ac (All-nil (λ y. a ≢ y))))
    (two_keys b c bc)

tag_type : codes "tag" ≢ codes "type"
tag_type e = cc

tag_value : codes "tag" ≢ codes "value"
tag_value e = cc

type_value : codes "type" ≢ codes "value"
type_value e = cc

mutual
  unique_at : (t : Tree) (named : ℕ) → HasUniqueKeys (json_at None named t)
  unique_at (scalar tag s) named =
      (three_keys _ _ _ tag_type tag_value type_value, (tt, (tt, (value_unique (place named tag) s, tt))))
  unique_at (structure tag ts) named = (two_keys _ _ tag_value, (tt, (items_unique ts ATTRIBUTE_VALUE, tt)))

  items_unique : (ts : Trees) (named : ℕ) → ItemsHaveUniqueKeys (items_at None named ts)
  items_unique none named = tt
  items_unique (more t ts) named = (unique_at t named, items_unique ts (named_after named t))

pub unique : (t : Tree) → HasUniqueKeys (json_of t)
unique t = unique_at t ATTRIBUTE_VALUE
