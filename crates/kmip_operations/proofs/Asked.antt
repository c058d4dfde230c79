-- A name, a version, an ID and a payload ask for one call at most.
use Rattle.std.proofs.Common.{◌≡◌, List, ℕ, Bool, true, false, Option, Some, None, Ok, refl, sym, ap, ◌∙◌}
use Rattle.std.specs.Option.{IsSomeAnd}
use Rattle.json.specs.Json.{Json, document}
use Rattle.json.specs.Strict.{HasUniqueKeys}
use Rattle.kmip_enums.specs.declared.operation.Operation.{Operation}
use Rattle.kmip_tags.specs.Tags.{REQUEST_PAYLOAD}
use Rattle.kmip_wire.specs.Tree.{Tree}
use Rattle.kmip_encodings.specs.Reading.{tree_of}
use Rattle.kmip_xml.specs.Texts.{looks_like_xml, MeansBy}
use Rattle.kmip_client.specs.Operation.{TreeRequest}
use Rattle.kmip_client.specs.declared.operation.Version.{Version}
use Rattle.kmip_operations.specs.Calls.{IsStructureText, IsPayloadText, has_empty_identifier, Asks}

same_tree : (j : Option Json) (t u : Tree) → IsSomeAnd j (λ j. HasUniqueKeys j × (tree_of j ≡ Ok t))
    → IsSomeAnd j (λ j. HasUniqueKeys j × (tree_of j ≡ Ok u)) → t ≡ u
same_tree None t u a b = absurd a
same_tree (Some j) t u a b =
    let first : tree_of j ≡ Ok t = a.1 in
    let second : tree_of j ≡ Ok u = b.1 in
    cc

same_meaning : (is_xml : Bool) (text : List ℕ) (t u : Tree) → MeansBy is_xml text t
    → MeansBy is_xml text u → t ≡ u
same_meaning true text t u a b = cc
same_meaning false text t u a b = same_tree (document text) t u a b

pub one_structure : (tag : ℕ) (text : List ℕ) (t u : Tree) → IsStructureText tag text t
    → IsStructureText tag text u → t ≡ u
one_structure tag text t u a b = same_meaning (looks_like_xml text) text t u a.0 b.0

pub one_call : (name version : List ℕ) (id : Option (List ℕ)) (payload : List ℕ) (r s : TreeRequest)
    → Asks name version id payload r → Asks name version id payload s → r ≡ s
one_call name version id payload r s a b =
    let operations : r.operation ≡ s.operation =
    (let first = a.operation_is in let second = b.operation_is in cc) in
    let versions : r.version ≡ s.version =
    (let first = a.version_is in let second = b.version_is in cc) in
    let ids : r.id ≡ s.id = sym a.id_is ∙ b.id_is in
    let payloads : r.payload ≡ s.payload =
    one_structure REQUEST_PAYLOAD payload r.payload s.payload a.payload_is.0 b.payload_is.0 in
    ap (λ (o : Operation). record { operation = o; version = r.version; id = r.id; payload = r.payload }) operations
    ∙ ap (λ (v : Version). record { operation = s.operation; version = v; id = r.id; payload = r.payload }) versions
    ∙ ap (λ (i : Option (List ℕ)). record { operation = s.operation; version = s.version; id = i; payload = r.payload }) ids
    ∙ ap (λ (t : Tree). record { operation = s.operation; version = s.version; id = s.id; payload = t }) payloads

-- and they ask for one with each ID, or with none
pub with_id : (name version payload : List ℕ) (id other : Option (List ℕ)) (r : TreeRequest)
    → Asks name version id payload r → Asks name version other payload
    (record { operation = r.operation; version = r.version; id = other; payload = r.payload })
with_id name version payload id other r asks = record {
  operation_is = asks.operation_is;
  version_is = asks.version_is;
  id_is = refl;
  payload_is = asks.payload_is;
}

clash : {G : Type 0} (b : Bool) → b ≡ true → b ≡ false → G
clash true e f = absurd (cc)
clash false e f = absurd (cc)

-- a text whose one tree has an empty identifier is no payload's
pub no_payload : (text : List ℕ) (found t : Tree) → IsStructureText REQUEST_PAYLOAD text found
    → has_empty_identifier found ≡ true → IsPayloadText text t → ⊥
no_payload text found t is empty asked =
    clash (has_empty_identifier t)
    (ap has_empty_identifier (one_structure REQUEST_PAYLOAD text t found asked.0 is) ∙ empty) asked.1
