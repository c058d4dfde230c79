-- Items, each with where it stands in a payload.
use Rattle.std.specs.Prelude.{ℕ, ◌%◌, ◌^◌, List}
use Rattle.kmip_wire.specs.Tree.{Tree, Scalar, scalar, structure, trees_of, integer, long_integer, big_integer, enumeration, boolean, text_string, byte_string, date_time, interval}
use Rattle.kmip_payloads.specs.declared.item.Value.{Value}
use Rattle.kmip_payloads.specs.declared.item.Value.TheVariants as values
use Rattle.kmip_payloads.specs.declared.item.Scalar.{Scalar as Lent}
use Rattle.kmip_payloads.specs.declared.item.Scalar.TheVariants as scalars
use Rattle.kmip_payloads.specs.declared.item.Item.{Item as LentItem}

-- an item, with the tags of the structures round it, from outside in: none for a field of the
-- payload
pub record Item : Type 0 where
  pub path : List ℕ
  pub tree : Tree

abbrev pub item_at : List ℕ → Tree → Item
item_at path tree = record { path = path; tree = tree }

abbrev pub scalar_view : Lent → Scalar
scalar_view (scalars.Integer z) = integer z
scalar_view (scalars.LongInteger z) = long_integer z
scalar_view (scalars.BigInteger bytes) = big_integer bytes.now
scalar_view (scalars.Enumeration n) = enumeration n
scalar_view (scalars.Boolean truth) = boolean truth
scalar_view (scalars.TextString text) = text_string text.now
scalar_view (scalars.ByteString bytes) = byte_string bytes.now
scalar_view (scalars.DateTime n) = date_time n
scalar_view (scalars.Interval n) = interval n

abbrev pub value_tree : ℕ → Value → Tree
value_tree tag (values.Scalar value) = scalar tag (scalar_view value)
value_tree tag (values.Structure items) = structure tag (trees_of items.now)

-- a tag has three bytes (KMIP 1.0, 9.1.1.1)
abbrev pub item_view : LentItem → Item
item_view x = item_at x.path.now (value_tree (x.tag % 2 ^ 24) x.value)
