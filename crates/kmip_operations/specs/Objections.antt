-- Why the payload of a success is no answer to its request: it says nothing, is about another
-- object, or names an object by nothing, or two by one name.
use Rattle.std.specs.Prelude.{ℕ, ◌==◌, Bool, true, false, not, ◌&&◌, List, [], length, codes, bytes_eq, Option, Some, None, if◌then◌else◌}
use Rattle.std.specs.List.{list_any}
use Rattle.std.specs.Option.{option_and_then}
use Rattle.kmip_tags.specs.Tags.{UNIQUE_IDENTIFIER, PRIVATE_KEY_UNIQUE_IDENTIFIER, PUBLIC_KEY_UNIQUE_IDENTIFIER, ASYNCHRONOUS_CORRELATION_VALUE}
use Rattle.kmip_wire.specs.Tree.{Tree, scalar, structure}
use Rattle.kmip_wire.specs.Parts.{text_in, bytes_in}
use Rattle.kmip_enums.specs.declared.operation.Operation.{Operation}
use Rattle.kmip_enums.specs.declared.operation.Operation.TheVariants as operations
use Rattle.kmip_client.specs.Operation.{TreeRequest}
use Rattle.kmip_client.specs.Untyped.{children_of}
use Rattle.kmip_words.specs.Exchange.{or_empty}
use Rattle.kmip_words.specs.Refusal.{item_with}
use Rattle.kmip_words.specs.About.{differs, one_key_text, no_identifier_text}
use Rattle.kmip_operations.specs.Calls.{is_empty_identifier}

-- ---- no field

-- whether a success of the operation may have no field: its answer is a list that may be empty
-- (Locate and Query, KMIP 1.0, 4.8 and 4.24; Discover Versions, KMIP 1.1, 4.26), that of whatever
-- operation has ended (Poll, KMIP 1.0, 4.26), or nothing (Notify and Put, KMIP 1.0, 5.1 and 5.2)
abbrev pub may_be_empty : Operation → Bool
may_be_empty operations.Locate = true
may_be_empty operations.Query = true
may_be_empty operations.DiscoverVersions = true
may_be_empty operations.Poll = true
may_be_empty operations.Notify = true
may_be_empty operations.Put = true
may_be_empty operation = false

-- whether a payload has no field, and the operation's has one
abbrev pub says_nothing : Operation → Tree → Bool
says_nothing operation payload =
    not (may_be_empty operation) && (length (children_of payload) == 0)

-- ---- what it is about

-- the text of the first item with this tag in a payload; empty where there is none
abbrev pub text_of_first : ℕ → Tree → List ℕ
text_of_first tag payload = or_empty (option_and_then text_in (item_with tag payload))

-- the first Unique Identifier in a payload
abbrev pub first_identifier : Tree → List ℕ
first_identifier = text_of_first UNIQUE_IDENTIFIER

-- the handle of an operation that has not ended
abbrev pub handle_in : Tree → List ℕ
handle_in payload =
    or_empty (option_and_then bytes_in (item_with ASYNCHRONOUS_CORRELATION_VALUE payload))

-- What a request names, and its response names again: the object (KMIP 1.0, 4.9 to 4.22; KMIP 1.2,
-- 4.29 to 4.34), or the operation that it cancels (KMIP 1.0, 4.25). The response of any other
-- operation names a new object, or none.
abbrev pub subject_in : Operation → Tree → List ℕ
subject_in operations.Check payload = first_identifier payload
subject_in operations.Get payload = first_identifier payload
subject_in operations.GetAttributes payload = first_identifier payload
subject_in operations.GetAttributeList payload = first_identifier payload
subject_in operations.AddAttribute payload = first_identifier payload
subject_in operations.ModifyAttribute payload = first_identifier payload
subject_in operations.DeleteAttribute payload = first_identifier payload
subject_in operations.ObtainLease payload = first_identifier payload
subject_in operations.GetUsageAllocation payload = first_identifier payload
subject_in operations.Activate payload = first_identifier payload
subject_in operations.Revoke payload = first_identifier payload
subject_in operations.Destroy payload = first_identifier payload
subject_in operations.Archive payload = first_identifier payload
subject_in operations.Recover payload = first_identifier payload
subject_in operations.Encrypt payload = first_identifier payload
subject_in operations.Decrypt payload = first_identifier payload
subject_in operations.Sign payload = first_identifier payload
subject_in operations.SignatureVerify payload = first_identifier payload
subject_in operations.MAC payload = first_identifier payload
subject_in operations.MACVerify payload = first_identifier payload
subject_in operations.Cancel payload = handle_in payload
subject_in operation payload = []

-- whether a payload is about another object than the request, which names one
abbrev pub is_about_another : TreeRequest → Tree → Bool
is_about_another request payload =
    differs (subject_in request.operation request.payload) (subject_in request.operation payload)

-- ---- the identifiers

-- whether the operation answers with the two keys of a pair (KMIP 1.0, 4.2; KMIP 1.1, 4.5)
abbrev pub makes_pair : Operation → Bool
makes_pair operations.CreateKeyPair = true
makes_pair operations.RekeyKeyPair = true
makes_pair operation = false

abbrev pub are_same : List ℕ → List ℕ → Bool
are_same first second = not (length first == 0) && bytes_eq first second

-- whether the private key and the public key of a pair have one identifier
abbrev pub is_one_key : Operation → Tree → Bool
is_one_key operation payload =
    makes_pair operation
    && are_same (text_of_first PRIVATE_KEY_UNIQUE_IDENTIFIER payload)
    (text_of_first PUBLIC_KEY_UNIQUE_IDENTIFIER payload)

abbrev pub is_empty_field : Tree → Bool
is_empty_field (scalar tag value) = is_empty_identifier tag value
is_empty_field (structure tag items) = false

-- whether a field of a payload is an empty identifier or handle
abbrev pub has_empty_field : Tree → Bool
has_empty_field payload = list_any is_empty_field (children_of payload)

-- ---- all of it

-- why a payload is no answer to the request, where it is none
abbrev pub objection : TreeRequest → Tree → Option (List ℕ)
objection request payload =
    if says_nothing request.operation payload then Some (codes "answer with an empty payload")
    else if is_about_another request payload then Some (codes "answer for another object")
    else if is_one_key request.operation payload then Some one_key_text
    else if has_empty_field payload then Some no_identifier_text
    else None
