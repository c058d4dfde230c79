-- Attribute values that hold no record, shown in round brackets.
use Rattle.std.proofs.Common.{◌≡◌, refl, sym, ap, subst, arith, ℕ, ◌-◌, ◌<◌, ◌≤◌, Bool, true, List, [], ◌∷◌, ◌++◌, length, take, drop, get_or, map}
use Rattle.std.proofs.lemmas.List.{take_all}
use Rattle.std.specs.Prelude.{codes}
use Rattle.kmip_shape.specs.Val.{Val, vals_of}
use Rattle.kmip_shape.specs.Shape.{NoCase}
use Rattle.kmip_shape.specs.declared.style.Style.{Style}
use Rattle.kmip_shape.specs.declared.style.Style.TheVariants.{Bare, Json}
use Rattle.kmip_shape.specs.Shown.{Growing, Grows, always, comma, text_in_style, shown_in_style, list_in_style, in_brackets, brackets_opening, brackets_closing}
use Rattle.kmip_shape.proofs.Growth.{grown, nothing, brackets_grown}
use Rattle.kmip_shape.proofs.Variants.{found_in_style}
use Rattle.kmip_enums.specs.ObjectTypes.{object_type_line, object_type_variants, object_type_found}
use Rattle.kmip_enums.specs.States.{state_line, state_variants, state_found}
use Rattle.kmip_codes.specs.CryptographicAlgorithms.{cryptographic_algorithm_line, cryptographic_algorithm_variants, cryptographic_algorithm_found}
use Rattle.kmip_enums.specs.declared.name_type.NameType.{NameType}
use Rattle.kmip_enums.specs.declared.link_type.LinkType.{LinkType}
use Rattle.kmip_names.specs.declared.texts.NameValue.{NameValue}
use Rattle.kmip_names.specs.declared.texts.LinkedObjectIdentifier.{LinkedObjectIdentifier}
use Rattle.kmip_names.specs.declared.texts.ApplicationNamespace.{ApplicationNamespace}
use Rattle.kmip_names.specs.declared.texts.ApplicationData.{ApplicationData}
use Rattle.kmip_types.specs.declared.cryptographic_parameters.CryptographicParameters as parameters
use Rattle.kmip_types.specs.declared.attribute_value.AttributeValue.{AttributeValue}
use Rattle.kmip_types.specs.declared.attribute_value.AttributeValue.TheVariants.{Name, ObjectType, CryptographicAlgorithm, CryptographicParameters, State, ObjectGroup, Link, ApplicationSpecificInformation, ContactInformation, Structure, Integer, LongInteger, BigInteger, Enumeration, Boolean, TextString, ByteString, DateTime, Interval}
use Rattle.kmip_types.specs.AttributeValues.{attribute_value, attribute_value_val}
use Rattle.kmip_types.specs.AttributesShown.{case_name, plain_in_style}

pub bracketed : {a b d e : Growing} (n m : List ℕ) (p q : Style → List ℕ) → n ≡ m → p ≡ q
    → Grows a b (brackets_opening n) → Grows b d p → Grows d e brackets_closing
    → Grows a e (in_brackets m q)
bracketed {a} {b} {d} {e} n m p q h k g1 g2 g3 =
    subst (λ (z : List ℕ). Grows a e (in_brackets z q)) h
    (subst (λ (t : Style → List ℕ). Grows a e (in_brackets n t)) k (brackets_grown n g1 g2 g3))

same_text : (name : List ℕ) (p q : Style → List ℕ) → ((o : Style) → p o ≡ q o) → (o : Style)
    → in_brackets name p o ≡ in_brackets name q o
same_text name p q h Bare = ap (λ z. name ++ 40 ∷ (z ++ 41 ∷ [])) (h Bare)
same_text name p q h Json = ap (λ z. 123 ∷ (text_in_style name Json ++ 58 ∷ (z ++ 125 ∷ []))) (h Json)

pub plain_is : (x : AttributeValue)
    → ((v : NameValue) (t : NameType) → x ≡ Name v t → ⊥)
    → ((p : parameters.CryptographicParameters) → x ≡ CryptographicParameters p → ⊥)
    → ((t : LinkType) (i : LinkedObjectIdentifier) → x ≡ Link t i → ⊥)
    → ((n : ApplicationNamespace) (d : ApplicationData) → x ≡ ApplicationSpecificInformation n d → ⊥)
    → ((vs : List Val) → x ≡ Structure vs → ⊥)
    → (o : Style) → in_brackets (case_name x) (plain_in_style x) o
    ≡ shown_in_style attribute_value (attribute_value_val x) o
plain_is (Name x y) h _ _ _ _ o = absurd (h x y refl)
plain_is (ObjectType x) _ _ _ _ _ o =
    same_text (codes "ObjectType") _ _
    (λ s. sym (found_in_style object_type_line object_type_variants (object_type_line x).number x
    (object_type_found x) s)) o
plain_is (CryptographicAlgorithm x) _ _ _ _ _ o =
    same_text (codes "CryptographicAlgorithm") _ _
    (λ s. sym (found_in_style cryptographic_algorithm_line cryptographic_algorithm_variants
    (cryptographic_algorithm_line x).number x (cryptographic_algorithm_found x) s)) o
plain_is (CryptographicParameters x) _ h _ _ _ o = absurd (h x refl)
plain_is (State x) _ _ _ _ _ o = same_text (codes "State") _ _
    (λ s. sym (found_in_style state_line state_variants (state_line x).number x (state_found x) s))
    o
plain_is (ObjectGroup x) _ _ _ _ _ o = refl
plain_is (Link x y) _ _ h _ _ o = absurd (h x y refl)
plain_is (ApplicationSpecificInformation x y) _ _ _ h _ o = absurd (h x y refl)
plain_is (ContactInformation x) _ _ _ _ _ o = refl
plain_is (Structure x) _ _ _ _ h o = absurd (h x refl)
plain_is (Integer x) _ _ _ _ _ o = refl
plain_is (LongInteger x) _ _ _ _ _ o = refl
plain_is (BigInteger x) _ _ _ _ _ o = refl
plain_is (Enumeration x) _ _ _ _ _ o = refl
plain_is (Boolean x) _ _ _ _ _ o = refl
plain_is (TextString x) _ _ _ _ _ o = refl
plain_is (ByteString x) _ _ _ _ _ o = refl
plain_is (DateTime x) _ _ _ _ _ o = refl
plain_is (Interval x) _ _ _ _ _ o = refl

pub first_and_rest : (xs : List AttributeValue) (x : AttributeValue) → 1 ≤ length xs
    → x ≡ get_or xs 0 x → xs ≡ x ∷ take (length xs - 1) (drop 1 xs)
first_and_rest [] x h e = absurd (omega (arith, h))
first_and_rest (y ∷ ys) x h e = λ i. sym e i ∷ sym (take_all (length (y ∷ ys) - 1) ys (omega arith)) i

pub members_step : {a b c d : Growing} (xs : List AttributeValue) (x : AttributeValue)
    (tail : List AttributeValue) (after : Bool) → xs ≡ x ∷ tail
    → Grows a b (always (comma after))
    → Grows b c (shown_in_style attribute_value (attribute_value_val x))
    → Grows c d (list_in_style (vals_of (map attribute_value_val tail))
    NoCase attribute_value true)
    → Grows a d (list_in_style (vals_of (map attribute_value_val xs)) NoCase attribute_value after)
members_step {a} {b} {c} {d} xs x tail after e p q r =
    subst (λ (ys : List AttributeValue).
    Grows a d (list_in_style (vals_of (map attribute_value_val ys))
    NoCase attribute_value after)) (sym e) (grown p (grown q r))

pub members_done : {a : Growing} (xs : List AttributeValue) (after : Bool) → length xs < 1
    → Grows a a (list_in_style (vals_of (map attribute_value_val xs)) NoCase attribute_value after)
members_done [] after h = nothing
members_done (x ∷ xs) after h = absurd (omega (arith, h))
