-- The responses that are read back as they were written: each choice in them holds the case that is
-- selected where it stands.
use Rattle.std.specs.Prelude.{ℕ, List, Option, IsSome}
use Rattle.kmip_tags.specs.Tags.{RESPONSE_MESSAGE}
use Rattle.std.specs.Option.{option_and_then}
use Rattle.kmip_wire.specs.Tree.{Tree}
use Rattle.kmip_shape.specs.Val.{Val}
use Rattle.kmip_shape.specs.Shape.{NoCase, no_outer}
use Rattle.kmip_shape.specs.Trees.{tree_of}
use Rattle.kmip_shape.specs.Reads.{root_read}
use Rattle.kmip_shape.specs.Writes.{bytes_of}
use Rattle.kmip_shape.specs.Fits.{Fits, selected_in}
use Rattle.kmip_response.specs.Tables.{response_message}
use Rattle.kmip_response.specs.Values.{response_message_val}
use Rattle.kmip_response.specs.Reading.{front_structure}
use Rattle.kmip_response.specs.declared.message.ResponseMessage.{ResponseMessage}

-- the tree that a message is written as, where it has one
abbrev pub response_tree : ResponseMessage → Option Tree
response_tree message = tree_of response_message RESPONSE_MESSAGE (response_message_val message)

-- the canonical bytes of a message, where it has any
abbrev pub response_bytes : ResponseMessage → Option (List ℕ)
response_bytes message = bytes_of response_message RESPONSE_MESSAGE (response_message_val message)

-- what `from_slice` reads from bytes
abbrev pub response_read : List ℕ → Option Val
response_read b = option_and_then (root_read response_message RESPONSE_MESSAGE) (front_structure b)

-- what holds of every message that Rust can hold: numbers are in range, texts are UTF-8
abbrev pub IsHeld : ResponseMessage → Type 0
IsHeld message = Fits response_message (response_message_val message)

-- A message is settled where it has a tree and each value in it is selected.
--
-- It has a tree exactly where no child of a custom structure is written as a structure, and no key
-- material is `Structure`, nor `Wrapped` beside attributes. What is selected goes by the message's
-- table, choice by choice:
-- - the payload of a batch item is that of its operation, and one without an operation has none
--   (KMIP 1.0, 7.2);
-- - the object of a Get payload is of its object type (KMIP 1.0, 4.10);
-- - the value of an attribute is of the variant that the attribute's name selects, and under a name
--   outside the table of the variant of its item's type (KMIP 1.0, 2.1.1 and 3);
-- - a child of a custom structure is of the variant of its item's type, so it is of one of the nine
--   plain variants;
-- - key material is `Bytes` in a key block of the formats 1 to 6 and the transparent key of the
--   format in one of the formats 7 to 13, or `Wrapped` with no attributes in any (KMIP 1.0, 2.1.3
--   and 2.1.7);
-- - a list of at least one is not empty, and no optional list is Some of an empty one.
abbrev pub IsSettled : ResponseMessage → Type 0
IsSettled message =
    IsSome (response_tree message)
    × selected_in (response_message_val message) NoCase response_message no_outer RESPONSE_MESSAGE
