-- What a helper returned is shown as the payload that answered its call.
use Rattle.std.proofs.Common.{◌≡◌, ℕ, List, refl, ap, Result, Ok, Err, IfOk}
use Rattle.kmip_shape.specs.Val.{Val, Number, Text, Bytes, Truth, Record, Case, One, AndField, NoField}
use Rattle.kmip_shape.specs.declared.style.Style.TheVariants.{Bare}
use Rattle.kmip_enums.specs.declared.operation.Operation.{Operation}
use Rattle.kmip_client.specs.Client.{IsOfOperation}
use Rattle.kmip_client.specs.Outcome.{Answer}
use Rattle.kmip_client.specs.declared.error.Error.{Error}
use Rattle.kmip_store.specs.declared.call.Call.{Call}
use Rattle.kmip_store.specs.declared.call.Call.TheVariants.{Query, CreateRsaKeyPair, RngRetrieve, Sign, ActivateKey, RevokeKey, DestroyKey, RenameKey, GetKey}
use Rattle.kmip_response.specs.Tables.{query_payload, rng_retrieve_payload, sign_payload, attribute_edit_payload, get_payload}
use Rattle.kmip_server_core.specs.Requests.{call_operation}
use Rattle.kmip_server.specs.Joined.{helper_answer, part_for, inside}
use Rattle.kmip_server.specs.Calls.{IsOfCall, answered_val, answered_seen}
use Rattle.kmip_server.specs.declared.answers.Answered.{Answered}
use Rattle.kmip_server.specs.declared.answers.Answered.TheVariants as answered
use Rattle.kmip_words.specs.Exchange.{answer_line, error_line, value_line, value_in_style, record_in_style, texts_in_style, pair_in_style, is_error}
use Rattle.kmip_joined.specs.Lines.{line_call}
use Rattle.kmip_joined.specs.Reports.{answered_shown}

-- a payload of an operation is a case, in which the two texts stand
pair_shown : (operation : Operation) (payload : Val) (first second : List ℕ)
    → IsOfOperation operation payload
    → Record (AndField (One (Text first)) (AndField (One (Text second)) NoField)) ≡ inside payload
    → pair_in_style first second Bare ≡ texts_in_style payload Bare
pair_shown operation (Case n v) first second own e = ap (λ (w : Val). texts_in_style (Case n w) Bare) e
pair_shown operation (Number z) first second own e = absurd own
pair_shown operation (Text s) first second own e = absurd own
pair_shown operation (Bytes b) first second own e = absurd own
pair_shown operation (Truth t) first second own e = absurd own
pair_shown operation (Record fields) first second own e = absurd own

-- what a call's helper returned of a payload is shown as this
is_shown : (call : Call) (x : Answered) (payload : Val)
    → IsOfOperation (call_operation call) payload → IsOfCall call x
    → answered_val x ≡ part_for call payload →
    answered_shown x ≡ value_in_style (line_call call) payload Bare
is_shown Query (answered.Query p) payload own fits e =
    ap (λ (w : Val). record_in_style query_payload w Bare) e
is_shown (CreateRsaKeyPair bits private public) (answered.Pair first second) payload own fits e =
    pair_shown (call_operation (CreateRsaKeyPair bits private public)) payload first second own e
is_shown (RngRetrieve count) (answered.Random p) payload own fits e =
    ap (λ (w : Val). record_in_style rng_retrieve_payload w Bare) e
is_shown (Sign id bytes) (answered.Signed p) payload own fits e =
    ap (λ (w : Val). record_in_style sign_payload w Bare) e
is_shown (ActivateKey id) answered.Unit payload own fits e = refl
is_shown (RevokeKey id) answered.Unit payload own fits e = refl
is_shown (DestroyKey id) answered.Unit payload own fits e = refl
is_shown (RenameKey id name) (answered.Renamed p) payload own fits e =
    ap (λ (w : Val). record_in_style attribute_edit_payload w Bare) e
is_shown (GetKey id) (answered.Got p) payload own fits e =
    ap (λ (w : Val). record_in_style get_payload w Bare) e
is_shown call x payload own fits e = absurd fits

abbrev ok : Val → Answer
ok v = Ok v

abbrev err : Error → Answer
err e = Err e

ok_same : (v w : Val) → ok v ≡ ok w → v ≡ w
ok_same v w e = cc

err_same : (a b : Error) → err a ≡ err b → a ≡ b
err_same a b e = cc

-- so is the line of the answer, and it is an error where the answer is one
pub shown_is : (call : Call) (answer : Answer) (result : Result Answered Error)
    → answered_seen result ≡ helper_answer call answer
    → IfOk answer (IsOfOperation (call_operation call)) → IfOk result (IsOfCall call) →
    (answer_line answered_shown Bare result
    ≡ answer_line (λ payload. value_in_style (line_call call) payload Bare) Bare answer)
    × (is_error result ≡ is_error answer)
shown_is call (Ok payload) (Ok x) same own fits = (
  ap (λ (t : List ℕ). value_line t Bare) (is_shown call x payload own fits (ok_same _ _ same)),
  refl,
)
shown_is call (Ok payload) (Err error) same own fits = absurd (cc)
shown_is call (Err error) (Ok x) same own fits = absurd (cc)
shown_is call (Err error) (Err other) same own fits = (ap (λ (e : Error). error_line e Bare) (err_same _ _ same), refl)
