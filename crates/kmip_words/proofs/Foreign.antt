-- What is said of a failure of another operation.
use Rattle.std.proofs.Common.{◌≡◌, true, false, Option, Some, refl}
use Rattle.std.specs.Option.{option_and_then}
use Rattle.kmip_tags.specs.Tags.{OPERATION}
use Rattle.kmip_wire.specs.Tree.{Tree}
use Rattle.kmip_enums.specs.declared.operation.Operation.{Operation}
use Rattle.kmip_client.specs.Check.{mismatch_text}
use Rattle.kmip_client.specs.Untyped.{number_under, reports_failure, sole_item}
use Rattle.kmip_words.specs.Strays.{is_item_of, operation_text, other_failure}

pub foreign : (operation : Operation) (front : Option Tree) (message item : Tree) → front ≡ Some message
    → sole_item message ≡ Some item → reports_failure item ≡ true → is_item_of operation item ≡ false
    → Some (mismatch_text operation (operation_text (number_under OPERATION item)))
    ≡ other_failure operation (option_and_then sole_item front)
foreign operation front message item is one fails other = rw (is, one, other, fails) refl
