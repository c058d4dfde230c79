-- The offset of an item and the value of one that is no structure, as they are written.
use Rattle.std.specs.Prelude.{ℕ, List, [], ◌∷◌, codes, Some, None}
use Rattle.std.specs.Fmt.{decimal, signed_decimal}
use Rattle.json.specs.Json.{Json, boolean, number, string}
use Rattle.json.specs.Token as token
use Rattle.json.specs.Token.{Token}
use Rattle.json.specs.Tree.{json_tokens}
use Rattle.kmip_wire.specs.Tree.{Tree, scalar, structure}
use Rattle.kmip_encodings.specs.Context.{place}
use Rattle.kmip_encodings.specs.Encoding.{Offset, value_json}
use Rattle.kmip_encodings.specs.declared.write_json.Part.{Part}
use Rattle.kmip_encodings.specs.declared.write_json.Part.TheVariants.{Number, Truth, Lent, Made}

abbrev pub part_json : Part → Json
part_json (Number z) = number (signed_decimal z)
part_json (Truth b) = boolean b
part_json (Lent text) = string text.now
part_json (Made text) = string text

abbrev pub offset_tokens : Offset → List Token
offset_tokens None = []
offset_tokens (Some at) = token.key (codes "offset") ∷ token.number (decimal at) ∷ []

-- the value of an item that is no structure, whose names under Attribute Value are those of `named`
abbrev pub value_tokens : ℕ → Tree → List Token
value_tokens named (scalar tag s) = json_tokens (value_json (place named tag) s)
value_tokens named (structure tag ts) = []
