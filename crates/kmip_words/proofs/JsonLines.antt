-- The lines of answers are JSON.
use Rattle.std.proofs.Common.{◌≡◌, ℕ, ◌<◌, pos, Bool, true, false, ◌&&◌, not, nat_eq, nat_lt, List, [], ◌∷◌, ◌++◌, length, codes, IsUtf8, Option, Some, None, Ok, Err, refl, sym, ap, subst, append_assoc, append-nil, arith}
use Rattle.std.proofs.Math.Seq.{take-append_seam, drop-append_seam}
use Rattle.std.proofs.lemmas.Bool.Decides.{nat_tests}
use Rattle.std.proofs.lemmas.List.{length-append}
use Rattle.std.proofs.lemmas.Str.{IsUtf8-take, IsUtf8-drop, IsCharBoundary-at_seam, IsCharBoundary-from_take}
use Rattle.std.specs.Char.{encode_utf8}
use Rattle.std.specs.Fmt.{decimal}
use Rattle.kmip_shape.specs.declared.style.Style.TheVariants.{Json}
use Rattle.kmip_shape.specs.Val.{Val, Field, Number, Text, Bytes, Truth, Record, Case, Absent, One, Many, NoField, AndField}
use Rattle.kmip_wire.specs.declared.kind.Kind.TheVariants.{TextString}
use Rattle.kmip_shape.specs.Shape.{Shape, RowList, Cases, Scalar, Rows, OneOf, NoCase, NoRow, Required}
use Rattle.kmip_shape.specs.Fits.{Fits, fits_in, field_fits, mark_fits}
use Rattle.kmip_shape.specs.Shown.{shown_in_style, text_in_style}
use Rattle.kmip_diag.specs.Diagnostic.{diagnostic}
use Rattle.kmip_shape.specs.Json.{AreCharacters, NoCharacter, AsItIs, IsJson, AString, ANumber, NoMember, AnObject, AreMembers, AMember, AndMembers}
use Rattle.kmip_shape.proofs.Json.{value_is}
use Rattle.kmip_shape.specs.Enumerations.{variant_at}
use Rattle.kmip_enums.specs.Operations.{operation_line}
use Rattle.kmip_enums.specs.ResultReasons.{result_reason_line, result_reason_variants}
use Rattle.kmip_enums.specs.declared.result_reason.ResultReason.{ResultReason}
use Rattle.kmip_enums.specs.declared.operation.Operation.{Operation}
use Rattle.kmip_enums.specs.declared.operation.Operation.TheVariants as operations
use Rattle.kmip_request.specs.Message.{operation_of}
use Rattle.kmip_request.specs.declared.payload.RequestPayload.{RequestPayload}
use Rattle.kmip_request.specs.declared.payload.RequestPayload.TheVariants as payloads
use Rattle.kmip_response.specs.Tables.{response_payload, response_payloads, create_key_pair_payload, query_payload, rng_retrieve_payload, sign_payload, attribute_edit_payload, get_payload, locate_payload, get_attributes_payload, create_payload, register_payload, get_attribute_list_payload, discover_versions_payload}
use Rattle.kmip_client.specs.Client.{IsOfOperation}
use Rattle.kmip_client.specs.declared.error.Error.{Error}
use Rattle.kmip_client.specs.declared.error.Error.TheVariants.{ConfigurationError, SerializeError, RequestWriteError, ResponseReadError, DeserializeError, ServerError, InternalError, ItemNotFound, Unknown, OutOfMemory}
use Rattle.kmip_words.specs.Exchange.{operation_asked, payload_in_style, record_in_style, request_in_style, texts_in_style, value_in_style, value_line, error_line, json_line}
use Rattle.kmip_words.specs.JsonLines.{IsGrammarLine, IsJsonLine}
use Rattle.kmip_words.specs.Refusal.{reason_of, message_of, reason_name, reason_object, reason_member, message_member, internal_error_line, refused_line, failure_line}
use Rattle.kmip_words.specs.declared.call.Call.{Call}
use Rattle.kmip_words.specs.declared.call.Call.TheVariants.{Query, CreateRsa, Rng, Sign, Activate, Revoke, Destroy, Rename, Get, Raw, Request}
use Rattle.kmip_words.proofs.Exchanges.{of_case}

-- characters that stand in a string as they are
abbrev pub plain : List ℕ → Bool
plain [] = true
plain (c ∷ s) = nat_lt 34 c && (not (nat_eq c 92) && plain s)

are_plain : (s : List ℕ) → plain s ≡ true → AreCharacters s
are_plain [] e = NoCharacter
are_plain (c ∷ s) e = go (nat_lt 34 c) (nat_eq c 92) (plain s) refl refl refl e (are_plain s)
  where
    go : (a b p : Bool) → nat_lt 34 c ≡ a → nat_eq c 92 ≡ b → plain s ≡ p → a && (not b && p) ≡ true
        → (plain s ≡ true → AreCharacters s) → AreCharacters (c ∷ s)
    go true false true ea eb ep h rest =
        let l : 34 < c = grind (arith, nat_tests) in
        let k : c ≡ 92 → ⊥ = grind (arith, nat_tests) in
        AsItIs c s (omega arith) (λ e. omega arith) k (rest ep)
    go true false false ea eb ep h rest = absurd (cc)
    go true true p ea eb ep h rest = absurd (cc)
    go false b p ea eb ep h rest = absurd (cc)

-- a text as a string: the one entry of an enumeration
string_is : (s : List ℕ) → IsJson (text_in_style s Json)
string_is s = value_is (Number (pos 0)) NoCase (OneOf (record { number = 0; name = s } ∷ [])) refl

-- the line of a value
value_line_is : (value : List ℕ) → IsJson value → IsGrammarLine (value_line value Json)
value_line_is value is = (
  codes "{\"answer\":" ++ (value ++ codes "}"),
  AnObject (codes "\"answer\":" ++ value) (AMember (codes "answer") value (are_plain (codes "answer") refl) is),
  ap (λ (t : List ℕ). codes "{\"answer\":" ++ t) (sym (append_assoc value (codes "}") (codes "\n"))),
)

-- the members of an error: its name, and its text
members_of : (name text : List ℕ) → plain name ≡ true
    → AreMembers (codes "\"error\":\"" ++ (name ++ (codes "\",\"text\":"
    ++ text_in_style text Json)))
members_of name text e =
    subst AreMembers (ap (λ (t : List ℕ).
    codes "\"error\":\"" ++ t) (append_assoc name (34 ∷ []) (codes ",\"text\":" ++ text_in_style text Json)))
    (AndMembers (codes "\"error\":\"" ++ (name ++ 34 ∷ [])) (codes "\"text\":" ++ text_in_style text Json)
    (AMember (codes "error") (34 ∷ (name ++ 34 ∷ [])) (are_plain (codes "error") refl)
    (AString name (are_plain name e)))
    (AMember (codes "text") (text_in_style text Json) (are_plain (codes "text") refl) (string_is text)))

pub error_line_by : (name text : List ℕ) → plain name ≡ true
    → IsGrammarLine (codes "{\"error\":\"" ++ (name ++ (codes "\",\"text\":"
    ++ (text_in_style text Json ++ codes "}\n"))))
error_line_by name text e =
    let inner : List ℕ = codes "\"error\":\"" ++ (name ++ (codes "\",\"text\":" ++ text_in_style text Json)) in
    (123 ∷ (inner ++ 125 ∷ []), AnObject inner (members_of name text e), simp append_assoc)

error_line_is : (error : Error) → IsGrammarLine (error_line error Json)
error_line_is (ConfigurationError text) = error_line_by (codes "ConfigurationError") text refl
error_line_is (SerializeError text) = error_line_by (codes "SerializeError") text refl
error_line_is (RequestWriteError text) = error_line_by (codes "RequestWriteError") text refl
error_line_is (ResponseReadError text) = error_line_by (codes "ResponseReadError") text refl
error_line_is (DeserializeError text) = error_line_by (codes "DeserializeError") text refl
error_line_is (ServerError text) = error_line_by (codes "ServerError") text refl
error_line_is (InternalError text) = error_line_by (codes "InternalError") text refl
error_line_is (ItemNotFound text) = error_line_by (codes "ItemNotFound") text refl
error_line_is (Unknown text) = error_line_by (codes "Unknown") text refl
error_line_is OutOfMemory = error_line_by (codes "OutOfMemory") [] refl

-- a record is shown the same, whatever choice is around it
record_is : (v : Val) (around : Cases) (rows : RowList) → fits_in v around (Rows rows)
    → IsJson (shown_in_style (Rows rows) v Json)
record_is (Record fields) around rows h = value_is (Record fields) NoCase (Rows rows) h
record_is (Number z) around rows h = absurd h
record_is (Text s) around rows h = absurd h
record_is (Bytes b) around rows h = absurd h
record_is (Truth t) around rows h = absurd h
record_is (Case n v) around rows h = absurd h

-- the identifiers of a pair
pair_is : (a b : List ℕ) → IsJson (codes "{\"private_key\":" ++
    (text_in_style a Json ++ (codes ",\"public_key\":" ++ (text_in_style b Json ++ codes "}"))))
pair_is a b =
    let inner : List ℕ = (codes "\"private_key\":" ++ text_in_style a Json)
    ++ (codes ",\"public_key\":" ++ text_in_style b Json) in
    subst IsJson (simp append_assoc)
    (AnObject inner (AndMembers (codes "\"private_key\":" ++ text_in_style a Json)
    (codes "\"public_key\":" ++ text_in_style b Json)
    (AMember (codes "private_key") (text_in_style a Json) (are_plain (codes "private_key") refl) (string_is a))
    (AMember (codes "public_key") (text_in_style b Json) (are_plain (codes "public_key") refl) (string_is b))))

-- a required text
text_in_field : (f : Field) → mark_fits Required f → field_fits f NoCase (Scalar TextString)
    → (s : List ℕ) × (f ≡ One (Text s))
text_in_field (One (Text s)) m h = (s, refl)
text_in_field (One (Number z)) m h = absurd h
text_in_field (One (Bytes b)) m h = absurd h
text_in_field (One (Truth t)) m h = absurd h
text_in_field (One (Record fields)) m h = absurd h
text_in_field (One (Case n v)) m h = absurd h
text_in_field Absent m h = absurd m
text_in_field (Many vals) m h = absurd m

texts_are : (n : ℕ) (v : Val) (around : Cases) → fits_in v around create_key_pair_payload
    → IsJson (texts_in_style (Case n v) Json)
texts_are n (Record (AndField f (AndField g NoField))) around h =
    let first = text_in_field f h.0 h.1 in
    let second = text_in_field g h.2.0 h.2.1 in
    let P : Field → Field → Type 0 = λ a b.
    IsJson (texts_in_style (Case n (Record (AndField a (AndField b NoField)))) Json) in
    subst (λ a. P a g) (sym first.1) (subst (λ b. P (One (Text first.0)) b) (sym second.1) (pair_is first.0 second.0))
texts_are n (Record NoField) around h = absurd h
texts_are n (Record (AndField f NoField)) around h = absurd h.2
texts_are n (Record (AndField f (AndField g (AndField k fields)))) around h = absurd h.2.2
texts_are n (Number z) around h = absurd h
texts_are n (Text s) around h = absurd h
texts_are n (Bytes b) around h = absurd h
texts_are n (Truth t) around h = absurd h
texts_are n (Case m v) around h = absurd h

abbrev rows_in : Shape → RowList
rows_in (Rows rows) = rows
rows_in _ = NoRow

-- the payload of an operation is JSON, where each of its cases is
by_number : (operation : Operation) (text : Val → List ℕ)
    → ((v : Val) → Fits response_payload (Case (operation_line operation).number v)
    → IsJson (text (Case (operation_line operation).number v))) →
    (payload : Val) → Fits response_payload payload → IsOfOperation operation payload → IsJson (text payload)
by_number operation text each payload fits own =
    of_case operation payload (λ v. Fits response_payload v → IsJson (text v))
    (λ n v is. (let P : ℕ → Type 0 = λ m. Fits response_payload (Case m v)
    → IsJson (text (Case m v)) in subst P (sym is) (each v))) own fits

-- the answer to a request
request_is_json : (request : RequestPayload) (payload : Val) → Fits response_payload payload
    → IsOfOperation (operation_of request) payload → IsJson (request_in_style request payload Json)
request_is_json (payloads.CreateKeyPair common private public) payload fits own =
    by_number operations.CreateKeyPair (λ v. texts_in_style v Json)
    (λ v h. texts_are 2 v response_payloads h) payload fits own
request_is_json (payloads.Activate id) payload fits own = NoMember
request_is_json (payloads.Revoke id reason date) payload fits own = NoMember
request_is_json (payloads.Destroy id) payload fits own = NoMember
request_is_json (payloads.Create type template) payload fits own =
    by_number operations.Create (λ v. payload_in_style v Json)
    (λ v h. record_is v response_payloads (rows_in create_payload) h) payload fits own
request_is_json (payloads.Register type template object) payload fits own =
    by_number operations.Register (λ v. payload_in_style v Json)
    (λ v h. record_is v response_payloads (rows_in register_payload) h) payload fits own
request_is_json (payloads.Locate attributes) payload fits own =
    by_number operations.Locate (λ v. payload_in_style v Json)
    (λ v h. record_is v response_payloads (rows_in locate_payload) h) payload fits own
request_is_json (payloads.Get id format compression wrapping) payload fits own =
    by_number operations.Get (λ v. payload_in_style v Json)
    (λ v h. record_is v response_payloads (rows_in get_payload) h) payload fits own
request_is_json (payloads.GetAttributes id names) payload fits own =
    by_number operations.GetAttributes (λ v. payload_in_style v Json)
    (λ v h. record_is v response_payloads (rows_in get_attributes_payload) h) payload fits own
request_is_json (payloads.GetAttributeList id) payload fits own =
    by_number operations.GetAttributeList (λ v. payload_in_style v Json)
    (λ v h. record_is v response_payloads (rows_in get_attribute_list_payload) h) payload fits own
request_is_json (payloads.AddAttribute id attribute) payload fits own =
    by_number operations.AddAttribute (λ v. payload_in_style v Json)
    (λ v h. record_is v response_payloads (rows_in attribute_edit_payload) h) payload fits own
request_is_json (payloads.ModifyAttribute id attribute) payload fits own =
    by_number operations.ModifyAttribute (λ v. payload_in_style v Json)
    (λ v h. record_is v response_payloads (rows_in attribute_edit_payload) h) payload fits own
request_is_json (payloads.DeleteAttribute id name index) payload fits own =
    by_number operations.DeleteAttribute (λ v. payload_in_style v Json)
    (λ v h. record_is v response_payloads (rows_in attribute_edit_payload) h) payload fits own
request_is_json (payloads.Query functions) payload fits own =
    by_number operations.Query (λ v. payload_in_style v Json)
    (λ v h. record_is v response_payloads (rows_in query_payload) h) payload fits own
request_is_json (payloads.DiscoverVersions versions) payload fits own =
    by_number operations.DiscoverVersions (λ v. payload_in_style v Json)
    (λ v h. record_is v response_payloads (rows_in discover_versions_payload) h) payload fits own
request_is_json (payloads.Sign id parameters contents) payload fits own =
    by_number operations.Sign (λ v. payload_in_style v Json)
    (λ v h. record_is v response_payloads (rows_in sign_payload) h) payload fits own
request_is_json (payloads.RNGRetrieve length) payload fits own =
    by_number operations.RNGRetrieve (λ v. payload_in_style v Json)
    (λ v h. record_is v response_payloads (rows_in rng_retrieve_payload) h) payload fits own

value_is_json : (call : Call) (payload : Val) → Fits response_payload payload
    → IsOfOperation (operation_asked call) payload → IsJson (value_in_style call payload Json)
value_is_json Query payload fits own =
    by_number operations.Query (λ v. record_in_style query_payload v Json)
    (λ v h. record_is v response_payloads (rows_in query_payload) h) payload fits own
value_is_json (CreateRsa length private public) payload fits own =
    by_number operations.CreateKeyPair (λ v. texts_in_style v Json)
    (λ v h. texts_are 2 v response_payloads h) payload fits own
value_is_json (Rng n) payload fits own =
    by_number operations.RNGRetrieve (λ v. record_in_style rng_retrieve_payload v Json)
    (λ v h. record_is v response_payloads (rows_in rng_retrieve_payload) h) payload fits own
value_is_json (Sign id bytes) payload fits own =
    by_number operations.Sign (λ v. record_in_style sign_payload v Json)
    (λ v h. record_is v response_payloads (rows_in sign_payload) h) payload fits own
value_is_json (Activate id) payload fits own = NoMember
value_is_json (Revoke id) payload fits own = NoMember
value_is_json (Destroy id) payload fits own = NoMember
value_is_json (Rename id name) payload fits own =
    by_number operations.ModifyAttribute (λ v. record_in_style attribute_edit_payload v Json)
    (λ v h. record_is v response_payloads (rows_in attribute_edit_payload) h) payload fits own
value_is_json (Get id) payload fits own =
    by_number operations.Get (λ v. record_in_style get_payload v Json)
    (λ v h. record_is v response_payloads (rows_in get_payload) h) payload fits own
value_is_json (Raw request) payload fits own = value_is payload NoCase response_payload fits
value_is_json (Request request) payload fits own = request_is_json request payload fits own

pub payload_line_is : (call : Call) (payload : Val) → Fits response_payload payload
    → IsOfOperation (operation_asked call) payload → IsGrammarLine (json_line call (Ok payload))
payload_line_is call payload fits own =
    value_line_is (value_in_style call payload Json) (value_is_json call payload fits own)

pub failure_line_is : (call : Call) (error : Error) → IsGrammarLine (json_line call (Err error))
failure_line_is call error = error_line_is error

-- members, and one more
and_member : (m : List ℕ) → AreMembers m → (name value : List ℕ) → plain name ≡ true → IsJson value
    → AreMembers (m ++ 44 ∷ 34 ∷ (name ++ 34 ∷ 58 ∷ value))
and_member m are name value e is = AndMembers m (34 ∷ (name ++ 34 ∷ 58 ∷ value)) are
    (AMember name value (are_plain name e) is)

-- a reason: its name, where it has one, and its number
reason_is : (reason : Option ResultReason) (number : ℕ)
    → IsJson (codes "{" ++ (reason_name reason ++ (codes "\"number\":" ++ (decimal number ++ codes "}"))))
reason_is None number =
    let inner : List ℕ = codes "\"number\":" ++ decimal number in
    subst IsJson (simp append_assoc)
    (AnObject inner (AMember (codes "number") (decimal number) (are_plain (codes "number") refl) (ANumber (pos number))))
reason_is (Some reason) number =
    let name : List ℕ = text_in_style (result_reason_line reason).name Json in
    let inner : List ℕ = (codes "\"name\":" ++ name) ++ (codes ",\"number\":" ++ decimal number) in
    subst IsJson (simp append_assoc)
    (AnObject inner (AndMembers (codes "\"name\":" ++ name) (codes "\"number\":" ++ decimal number)
    (AMember (codes "name") name (are_plain (codes "name") refl) (string_is (result_reason_line reason).name))
    (AMember (codes "number") (decimal number) (are_plain (codes "number") refl) (ANumber (pos number)))))

and_reason : (m : List ℕ) → AreMembers m → (reason : Option ℕ) → AreMembers (m ++ reason_member reason)
and_reason m are (Some reason) = and_member m are (codes "reason") (reason_object reason) refl
    (reason_is (variant_at result_reason_line result_reason_variants reason) reason)
and_reason m are None = subst AreMembers (sym (append-nil m)) are

and_message : (m : List ℕ) → AreMembers m → (message : Option (List ℕ)) → AreMembers (m ++ message_member message)
and_message m are (Some message) = and_member m are (codes "message")
    (text_in_style message Json) refl (string_is message)
and_message m are None = subst AreMembers (sym (append-nil m)) are

-- members, and what the server says of a failure
and_failure : (m response : List ℕ) → AreMembers m
    → AreMembers ((m ++ reason_member (reason_of response)) ++ message_member (message_of response))
and_failure m response are = and_message (m ++ reason_member (reason_of response))
    (and_reason m are (reason_of response)) (message_of response)

pub internal_error_line_is : (text response : List ℕ) → IsGrammarLine (internal_error_line text response)
internal_error_line_is text response =
    let error : List ℕ = codes "\"error\":\"InternalError\",\"text\":" ++ text_in_style text Json in
    let skeleton : List ℕ = text_in_style (diagnostic (Some 0x4200) response) Json in
    let shown : List ℕ = error ++ (codes ",\"response\":" ++ skeleton) in
    let all : List ℕ = (shown ++ reason_member (reason_of response)) ++ message_member (message_of response) in (
      123 ∷ (all ++ 125 ∷ []),
      AnObject all (and_failure shown response
          (and_member error (members_of (codes "InternalError") text refl)
          (codes "response") skeleton refl (string_is (diagnostic (Some 0x4200) response)))),
      simp append_assoc,
    )

refused_line_is : (name text response : List ℕ) → plain name ≡ true
    → IsGrammarLine (refused_line (codes "{\"error\":\"" ++ (name ++ codes "\",\"text\":")) text response)
refused_line_is name text response e =
    let error : List ℕ = codes "\"error\":\"" ++ (name ++ (codes "\",\"text\":" ++ text_in_style text Json)) in
    let all : List ℕ = (error ++ reason_member (reason_of response)) ++ message_member (message_of response) in (
      123 ∷ (all ++ 125 ∷ []),
      AnObject all (and_failure error response (members_of name text e)),
      simp append_assoc,
    )

-- the line of any error
pub error_told_is : (error : Error) (response : List ℕ) → IsGrammarLine (failure_line error response)
error_told_is (ConfigurationError text) response = error_line_is (ConfigurationError text)
error_told_is (SerializeError text) response = error_line_is (SerializeError text)
error_told_is (RequestWriteError text) response = error_line_is (RequestWriteError text)
error_told_is (ResponseReadError text) response = error_line_is (ResponseReadError text)
error_told_is (DeserializeError text) response = error_line_is (DeserializeError text)
error_told_is (ServerError text) response = refused_line_is (codes "ServerError") text response refl
error_told_is (InternalError text) response = internal_error_line_is text response
error_told_is (ItemNotFound text) response = refused_line_is (codes "ItemNotFound") text response refl
error_told_is (Unknown text) response = error_line_is (Unknown text)
error_told_is OutOfMemory response = error_line_is OutOfMemory

-- ---- in UTF-8

-- what stands before a text
front_utf8 : (a b : List ℕ) → IsUtf8 (a ++ b) → IsUtf8 b → IsUtf8 a
front_utf8 a b u v =
    subst IsUtf8 (take-append_seam a b)
    (IsUtf8-take (a ++ b) (length a) u (IsCharBoundary-at_seam (a ++ b) a b refl v))

-- and after one
pub rest_utf8 : (a b : List ℕ) → IsUtf8 (a ++ b) → IsUtf8 a → IsUtf8 b
rest_utf8 a b u v =
    subst IsUtf8 (drop-append_seam a b)
    (IsUtf8-drop (a ++ b) (length a) u
    (IsCharBoundary-from_take (a ++ b) (length a) u (omega (arith, length-append a b))
    (subst IsUtf8 (sym (take-append_seam a b)) v)))

line_feed : IsUtf8 (codes "\n")
unfolding encode_utf8
line_feed = (codes "\n", (refl, refl))

-- a line that was added to a text
pub added_line : (old line new : List ℕ) → IsGrammarLine line → new ≡ old ++ line → IsUtf8 old
    → IsUtf8 new → IsJsonLine line
added_line old line new is told before after =
    let whole : IsUtf8 line = rest_utf8 old line (subst IsUtf8 told after) before in (
      is.0,
      record { grammar = is.1; utf8 = front_utf8 is.0 (codes "\n") (subst IsUtf8 is.2 whole) line_feed },
      is.2,
    )
