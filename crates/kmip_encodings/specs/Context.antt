-- Under which tag a name of an enumeration's number is looked up.
use Rattle.std.specs.Prelude.{ℕ, ◌==◌, if◌then◌else◌}
use Rattle.kmip_tags.specs.Tags as tags
use Rattle.kmip_wire.specs.Tree.{Tree, Scalar, scalar, structure, text_string}
use Rattle.kmip_encodings.specs.Attributes.{attribute_tag}

-- Under its own tag, but for Attribute Value: there it is the tag that an Attribute Name before it in
-- the same structure says, and Attribute Value itself, under which no table is, where none does.
abbrev pub place : ℕ → ℕ → ℕ
place named tag = if tag == tags.ATTRIBUTE_VALUE then named else tag

abbrev pub named_by : ℕ → Scalar → ℕ
named_by named (text_string name) = attribute_tag name
named_by named s = named

-- what an item says of those after it in the same structure
abbrev pub named_after : ℕ → Tree → ℕ
named_after named (scalar tag s) = if tag == tags.ATTRIBUTE_NAME then named_by named s else named
named_after named (structure tag ts) = named
