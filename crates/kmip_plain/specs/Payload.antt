-- A payload in one of the two forms.
use Rattle.std.specs.Prelude.{ℕ, List}
use Rattle.json.specs.Json.{Json}
use Rattle.json.specs.Print.{print}
use Rattle.json.specs.Tree.{json_tokens}
use Rattle.kmip_wire.specs.Tree.{Tree}
use Rattle.kmip_encodings.specs.Encoding.{json_of}
use Rattle.kmip_plain.specs.Plain.{plain_json}
use Rattle.kmip_plain.specs.declared.payload.PayloadForm.{PayloadForm}
use Rattle.kmip_plain.specs.declared.payload.PayloadForm.TheVariants.{Tree as AsTree, Plain as AsPlain}

abbrev pub payload_json : PayloadForm → Tree → Json
payload_json AsTree tree = json_of tree
payload_json AsPlain tree = plain_json tree

-- its text, with no white space
unfoldable pub payload_text : PayloadForm → Tree → List ℕ
payload_text form tree = print (json_tokens (payload_json form tree))
