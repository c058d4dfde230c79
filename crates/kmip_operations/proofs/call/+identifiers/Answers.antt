use Rattle.std.proofs.Common.{sym, ◌∙◌, arith}
use Rattle.kmip_wire.proofs.Writing.{child_smaller}
use Rattle.kmip_operations.proofs.Identifiers.{none_so_far, one_found}
use Rattle.kmip_operations.proofs.call.+identifiers.Goals as goal

pub have_empty_identifier-has_empty_identifier-requires : goal.have_empty_identifier-has_empty_identifier-requires
have_empty_identifier-has_empty_identifier-requires t c = (
  omega (
    arith,
    child_smaller c.args.items.now c.loop-item.item-index c.item-item.result c.loop-item-test.true
        (sym c.item-item.is),
    c.decreases,
  ),
  tt,
)

pub have_empty_identifier-returns-then-has_empty_identifier : goal.have_empty_identifier-returns-then-has_empty_identifier
have_empty_identifier-returns-then-has_empty_identifier t c =
    sym (one_found c.args.items.now c.loop-item.item-index c.item-item.result
    c.loop-item-test.true (sym c.item-item.is)
    (sym c.has_empty_identifier.ensures ∙ c.if-has_empty_identifier.true))

pub have_empty_identifier-loop-item-preserved : goal.have_empty_identifier-loop-item-preserved
have_empty_identifier-loop-item-preserved t c =
    none_so_far c.args.items.now c.loop-item.item-index c.item-item.result c.loop-item-test.true
    (sym c.item-item.is) c.loop-item.invariant
    (sym c.has_empty_identifier.ensures ∙ c.if-has_empty_identifier.false)
