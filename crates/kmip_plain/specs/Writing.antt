-- What the writer asks of items, and what it writes of one that is no structure.
use Rattle.std.specs.Prelude.{ℕ, ◌==◌, Bool, List, []}
use Rattle.std.specs.List.{list_any}
use Rattle.json.specs.Token.{Token}
use Rattle.json.specs.Tree.{json_tokens}
use Rattle.kmip_wire.specs.Parts.{tag_of}
use Rattle.kmip_wire.specs.Tree.{Tree, scalar, structure}
use Rattle.kmip_encodings.specs.Context.{place}
use Rattle.kmip_plain.specs.Plain.{plain_value}

-- whether one of the items has the tag
abbrev pub has_tag : ℕ → List Tree → Bool
has_tag tag items = list_any (λ item. tag_of item == tag) items

-- the value of an item that is no structure
abbrev pub scalar_tokens : ℕ → Tree → List Token
scalar_tokens named (scalar tag value) = json_tokens (plain_value (place named tag) value)
scalar_tokens named (structure tag items) = []
