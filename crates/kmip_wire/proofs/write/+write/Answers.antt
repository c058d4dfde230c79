use Rattle.std.proofs.Common.{refl, sym, ap, ◌∙◌, arith, rules, ℕ, ◌+◌, ◌-◌, ◌++◌, take, drop}
use Rattle.std.specs.Int.{w32, w64, to_be_bytes, cast_unsigned}
use Rattle.std.proofs.lemmas.Int.{to_z-of_z}
use Rattle.kmip_wire.specs.Tree.{trees_of, integer, long_integer, big_integer, enumeration, boolean, text_string, byte_string, date_time, interval}
use Rattle.kmip_wire.specs.Sees.{tree_of_node}
use Rattle.kmip_wire.proofs.Writing.{put_room, put_done, four_room, four_done, eight_room, eight_done, truth_byte, fits, rest_start, rest_first, rest_next, structure_set, child_smaller}
use Rattle.kmip_wire.proofs.write.+write.Goals as goal

pub put_tree-put_four-requires : goal.put_tree-put_four-requires
put_tree-put_four-requires t c = four_room c.args.tree.now c.tree.inside.tag
    (integer c.in-Integer.number) _ c.args.out.now.spare
    (sym (ap (tree_of_node c.tree.inside.tag) c.in-Integer.is) ∙ c.tree.view_is)
    (ap (to_be_bytes w32) c.cast_unsigned.ensures
    ∙ ap (λ z. to_be_bytes w32 (cast_unsigned w32 z))
    (to_z-of_z w32 c.in-Integer.number (search rules))) c.requires

pub put_tree-returns-in-Integer : goal.put_tree-returns-in-Integer
put_tree-returns-in-Integer t c = four_done c.args.tree.now c.tree.inside.tag
    (integer c.in-Integer.number) _ c.args.out.now c.put_four.new.self
    (sym (ap (tree_of_node c.tree.inside.tag) c.in-Integer.is) ∙ c.tree.view_is)
    (ap (to_be_bytes w32) c.cast_unsigned.ensures
    ∙ ap (λ z. to_be_bytes w32 (cast_unsigned w32 z))
    (to_z-of_z w32 c.in-Integer.number (search rules))) c.put_four.ensures

pub put_tree-put_eight-requires : goal.put_tree-put_eight-requires
put_tree-put_eight-requires t c = eight_room c.args.tree.now c.tree.inside.tag
    (long_integer c.in-LongInteger.number) _ c.args.out.now.spare
    (sym (ap (tree_of_node c.tree.inside.tag) c.in-LongInteger.is) ∙ c.tree.view_is)
    (ap (to_be_bytes w64) c.cast_unsigned-in-LongInteger.ensures
    ∙ ap (λ z. to_be_bytes w64 (cast_unsigned w64 z))
    (to_z-of_z w64 c.in-LongInteger.number (search rules))) c.requires

pub put_tree-returns-in-LongInteger : goal.put_tree-returns-in-LongInteger
put_tree-returns-in-LongInteger t c =
    eight_done c.args.tree.now c.tree.inside.tag
    (long_integer c.in-LongInteger.number) _ c.args.out.now c.put_eight.new.self
    (sym (ap (tree_of_node c.tree.inside.tag) c.in-LongInteger.is) ∙ c.tree.view_is)
    (ap (to_be_bytes w64) c.cast_unsigned-in-LongInteger.ensures
    ∙ ap (λ z. to_be_bytes w64 (cast_unsigned w64 z))
    (to_z-of_z w64 c.in-LongInteger.number (search rules))) c.put_eight.ensures

pub put_tree-put_four-requires-in-Enumeration : goal.put_tree-put_four-requires-in-Enumeration
put_tree-put_four-requires-in-Enumeration t c =
    four_room c.args.tree.now c.tree.inside.tag
    (enumeration c.in-Enumeration.number) _ c.args.out.now.spare
    (sym (ap (tree_of_node c.tree.inside.tag) c.in-Enumeration.is) ∙ c.tree.view_is)
    (refl) c.requires

pub put_tree-returns-in-Enumeration : goal.put_tree-returns-in-Enumeration
put_tree-returns-in-Enumeration t c =
    four_done c.args.tree.now c.tree.inside.tag
    (enumeration c.in-Enumeration.number) _ c.args.out.now c.put_four-in-Enumeration.new.self
    (sym (ap (tree_of_node c.tree.inside.tag) c.in-Enumeration.is) ∙ c.tree.view_is)
    (refl) c.put_four-in-Enumeration.ensures

pub put_tree-put_eight-requires-in-Boolean : goal.put_tree-put_eight-requires-in-Boolean
put_tree-put_eight-requires-in-Boolean t c =
    eight_room c.args.tree.now c.tree.inside.tag (boolean c.in-Boolean.truth) _ c.args.out.now.spare
    (sym (ap (tree_of_node c.tree.inside.tag) c.in-Boolean.is) ∙ c.tree.view_is)
    (ap (to_be_bytes w64) (truth_byte c.in-Boolean.truth)) c.requires

pub put_tree-returns-in-Boolean : goal.put_tree-returns-in-Boolean
put_tree-returns-in-Boolean t c = eight_done c.args.tree.now c.tree.inside.tag
    (boolean c.in-Boolean.truth) _ c.args.out.now c.put_eight-in-Boolean.new.self
    (sym (ap (tree_of_node c.tree.inside.tag) c.in-Boolean.is) ∙ c.tree.view_is)
    (ap (to_be_bytes w64) (truth_byte c.in-Boolean.truth)) c.put_eight-in-Boolean.ensures

pub put_tree-put_eight-requires-in-DateTime : goal.put_tree-put_eight-requires-in-DateTime
put_tree-put_eight-requires-in-DateTime t c =
    eight_room c.args.tree.now c.tree.inside.tag
    (date_time c.in-DateTime.seconds) _ c.args.out.now.spare
    (sym (ap (tree_of_node c.tree.inside.tag) c.in-DateTime.is) ∙ c.tree.view_is) (refl) c.requires

pub put_tree-returns-in-DateTime : goal.put_tree-returns-in-DateTime
put_tree-returns-in-DateTime t c = eight_done c.args.tree.now c.tree.inside.tag
    (date_time c.in-DateTime.seconds) _ c.args.out.now c.put_eight-in-DateTime.new.self
    (sym (ap (tree_of_node c.tree.inside.tag) c.in-DateTime.is) ∙ c.tree.view_is)
    (refl) c.put_eight-in-DateTime.ensures

pub put_tree-put_four-requires-in-Interval : goal.put_tree-put_four-requires-in-Interval
put_tree-put_four-requires-in-Interval t c =
    four_room c.args.tree.now c.tree.inside.tag
    (interval c.in-Interval.seconds) _ c.args.out.now.spare
    (sym (ap (tree_of_node c.tree.inside.tag) c.in-Interval.is) ∙ c.tree.view_is) (refl) c.requires

pub put_tree-returns-in-Interval : goal.put_tree-returns-in-Interval
put_tree-returns-in-Interval t c = four_done c.args.tree.now c.tree.inside.tag
    (interval c.in-Interval.seconds) _ c.args.out.now c.put_four-in-Interval.new.self
    (sym (ap (tree_of_node c.tree.inside.tag) c.in-Interval.is) ∙ c.tree.view_is)
    (refl) c.put_four-in-Interval.ensures

pub put_tree-put_item-requires-clause-room : goal.put_tree-put_item-requires-clause-room
put_tree-put_item-requires-clause-room t c =
    (put_room c.args.tree.now c.tree.inside.tag
    (big_integer c.in-BigInteger.bytes) c.as_slice-in-BigInteger.result.now c.args.out.now.spare
    (sym (ap (tree_of_node c.tree.inside.tag) c.in-BigInteger.is) ∙ c.tree.view_is)
    c.as_slice-in-BigInteger.ensures c.requires).1

pub put_tree-put_item-requires-clause-form : goal.put_tree-put_item-requires-clause-form
put_tree-put_item-requires-clause-form t c =
    (put_room c.args.tree.now c.tree.inside.tag
    (big_integer c.in-BigInteger.bytes) c.as_slice-in-BigInteger.result.now c.args.out.now.spare
    (sym (ap (tree_of_node c.tree.inside.tag) c.in-BigInteger.is) ∙ c.tree.view_is)
    c.as_slice-in-BigInteger.ensures c.requires).0

pub put_tree-returns-in-BigInteger : goal.put_tree-returns-in-BigInteger
put_tree-returns-in-BigInteger t c =
    put_done c.args.tree.now c.tree.inside.tag
    (big_integer c.in-BigInteger.bytes)
    c.as_slice-in-BigInteger.result.now c.args.out.now c.put_item.new.self
    (sym (ap (tree_of_node c.tree.inside.tag) c.in-BigInteger.is) ∙ c.tree.view_is)
    c.as_slice-in-BigInteger.ensures c.put_item.ensures

pub put_tree-put_item-requires-in-TextString-clause-room : goal.put_tree-put_item-requires-in-TextString-clause-room
put_tree-put_item-requires-in-TextString-clause-room t c =
    (put_room c.args.tree.now c.tree.inside.tag
    (text_string c.in-TextString.text) c.as_bytes.result.now c.args.out.now.spare
    (sym (ap (tree_of_node c.tree.inside.tag) c.in-TextString.is) ∙ c.tree.view_is)
    (c.as_bytes.ensures.value ∙ c.as_str.ensures.bytes) c.requires).1

pub put_tree-put_item-requires-in-TextString-clause-form : goal.put_tree-put_item-requires-in-TextString-clause-form
put_tree-put_item-requires-in-TextString-clause-form t c =
    (put_room c.args.tree.now c.tree.inside.tag
    (text_string c.in-TextString.text) c.as_bytes.result.now c.args.out.now.spare
    (sym (ap (tree_of_node c.tree.inside.tag) c.in-TextString.is) ∙ c.tree.view_is)
    (c.as_bytes.ensures.value ∙ c.as_str.ensures.bytes) c.requires).0

pub put_tree-returns-in-TextString : goal.put_tree-returns-in-TextString
put_tree-returns-in-TextString t c =
    put_done c.args.tree.now c.tree.inside.tag
    (text_string c.in-TextString.text)
    c.as_bytes.result.now c.args.out.now c.put_item-in-TextString.new.self
    (sym (ap (tree_of_node c.tree.inside.tag) c.in-TextString.is) ∙ c.tree.view_is)
    (c.as_bytes.ensures.value ∙ c.as_str.ensures.bytes) c.put_item-in-TextString.ensures

pub put_tree-put_item-requires-in-ByteString-clause-room : goal.put_tree-put_item-requires-in-ByteString-clause-room
put_tree-put_item-requires-in-ByteString-clause-room t c =
    (put_room c.args.tree.now c.tree.inside.tag
    (byte_string c.in-ByteString.bytes) c.as_slice-in-ByteString.result.now c.args.out.now.spare
    (sym (ap (tree_of_node c.tree.inside.tag) c.in-ByteString.is) ∙ c.tree.view_is)
    c.as_slice-in-ByteString.ensures c.requires).1

pub put_tree-put_item-requires-in-ByteString-clause-form : goal.put_tree-put_item-requires-in-ByteString-clause-form
put_tree-put_item-requires-in-ByteString-clause-form t c =
    (put_room c.args.tree.now c.tree.inside.tag
    (byte_string c.in-ByteString.bytes) c.as_slice-in-ByteString.result.now c.args.out.now.spare
    (sym (ap (tree_of_node c.tree.inside.tag) c.in-ByteString.is) ∙ c.tree.view_is)
    c.as_slice-in-ByteString.ensures c.requires).0

pub put_tree-returns-in-ByteString : goal.put_tree-returns-in-ByteString
put_tree-returns-in-ByteString t c =
    put_done c.args.tree.now c.tree.inside.tag
    (byte_string c.in-ByteString.bytes)
    c.as_slice-in-ByteString.result.now c.args.out.now c.put_item-in-ByteString.new.self
    (sym (ap (tree_of_node c.tree.inside.tag) c.in-ByteString.is) ∙ c.tree.view_is)
    c.as_slice-in-ByteString.ensures c.put_item-in-ByteString.ensures

pub put_structure-put_head-requires : goal.put_structure-put_head-requires
put_structure-put_head-requires t c =
    let f = fits c.args.tag (trees_of c.args.items.now) c.args.out.now.spare c.requires in
    omega (arith, f.room)

pub put_structure-loop-item-init : goal.put_structure-loop-item-init
put_structure-loop-item-init t c =
    let f = fits c.args.tag (trees_of c.args.items.now) c.args.out.now.spare c.requires in
    rest_start c.args.items.now c.args.tag c.args.out.now.spare c.put_head.new.self f
    (omega (arith, f.room, c.put_head.ensures.spare))

pub put_structure-put_tree-requires : goal.put_structure-put_tree-requires
put_structure-put_tree-requires t c = (
  omega (
    arith,
    child_smaller c.args.items.now c.loop-item.item-index c.item-item.result c.loop-item-test.true
        (sym c.item-item.is),
    c.decreases,
  ),
  rest_first c.args.items.now c.loop-item.item-index c.item-item.result c.put_head.new.self c.loop-item.out c.loop-item-test.true (sym c.item-item.is) c.loop-item.invariant,
)

pub put_structure-loop-item-preserved : goal.put_structure-loop-item-preserved
put_structure-loop-item-preserved t c =
    rest_next c.args.items.now c.loop-item.item-index c.item-item.result c.put_head.new.self c.loop-item.out c.put_tree.new.out c.loop-item-test.true (sym c.item-item.is) c.loop-item.invariant c.put_tree.ensures

pub put_structure-returns : goal.put_structure-returns
put_structure-returns t c =
    let len : ℕ = c.len.result - c.len-start.result - 8 in
    structure_set c.args.items.now c.args.tag c.loop-item.item-index len c.args.out.now c.put_head.new.self c.loop-item.out c.set_length.new.self c.requires c.put_head.ensures c.loop-item-test.false c.loop-item.invariant
    (omega (arith, c.len.ensures, c.len-start.ensures))
    (c.set_length.ensures.bytes ∙ ap
    (λ s. take (s + 4) c.loop-item.out.bytes
    ++ (to_be_bytes w32 len ++ drop (s + 8) c.loop-item.out.bytes)) c.len-start.ensures)
    c.set_length.ensures.spare
