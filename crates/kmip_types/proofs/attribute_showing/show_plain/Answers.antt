use Rattle.kmip_types.proofs.AttributesShown.{bracketed}
use Rattle.kmip_types.proofs.attribute_showing.show_plain.Goals as goal

pub returns : goal.returns
returns c =
    bracketed _ _ _ _ c.name_of.ensures c.piece_of.ensures c.open_brackets.ensures c.show_piece.ensures c.close_brackets.ensures
