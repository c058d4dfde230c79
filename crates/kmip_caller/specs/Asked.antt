-- What the words of an order ask for.
use Rattle.std.specs.Prelude.{◌≡◌, ℕ, List, Option, Some, None}
use Rattle.kmip_wire.specs.Tree.{Tree}
use Rattle.kmip_client.specs.Operation.{TreeRequest}
use Rattle.kmip_words.specs.Exchange.{Settings}
use Rattle.kmip_words.specs.Calls.{typed_call}
use Rattle.kmip_words.specs.declared.call.Call.{Call}
use Rattle.kmip_plain.specs.declared.payload.PayloadForm.TheVariants.{Tree as AsTree, Plain as AsPlain}
use Rattle.kmip_operations.specs.Calls.{Asks, IsMessageText, request_of}
use Rattle.kmip_caller.specs.TreeWords.{TreeText, an_operation, a_message, tree_words, item_id}
use Rattle.kmip_caller.specs.TableWords.{table_words}
use Rattle.kmip_caller.specs.Exchange.{Exchange, typed_exchange, operation_exchange, message_exchange}
use Rattle.kmip_caller.specs.declared.command.Order.{Order}
use Rattle.kmip_caller.specs.declared.requested.Asked.{Asked}
use Rattle.kmip_caller.specs.declared.requested.Asked.TheVariants as asked

-- These words, whose payload or message is in JSON, ask for this exchange.
abbrev pub AsksTree : Settings → TreeText → Exchange → Type 0
AsksTree settings (an_operation name version hex payload) exchange =
    (request : TreeRequest) × (item_id hex ≡ Some request.id)
    × Asks name version request.id payload request
    × (exchange ≡ operation_exchange AsTree settings request)
AsksTree settings (a_message text) exchange =
    (message : Tree) × IsMessageText text message × (exchange ≡ message_exchange settings message)

-- The order asks for this exchange: by such words; by those of a typed call; or by those of the
-- table, and then the payload of the answer is plain JSON.
pub data AsksFor (order : Order) (exchange : Exchange) : Type 0 where
  tree : (text : TreeText) → tree_words order.words ≡ Some text →
      AsksTree order.settings text exchange → AsksFor order exchange
  typed : tree_words order.words ≡ None →
      (call : Call) → typed_call order.words ≡ Some call → exchange ≡ typed_exchange order.settings call →
      AsksFor order exchange
  table : tree_words order.words ≡ None →
      (request : TreeRequest) → table_words order.words ≡ Some request →
      exchange ≡ operation_exchange AsPlain order.settings request → AsksFor order exchange

abbrev pub AsksForNone : Order → Type 0
AsksForNone order = (exchange : Exchange) → AsksFor order exchange → ⊥

-- the exchange of what the code found in the words
abbrev pub exchange_of : Settings → Asked → Exchange
exchange_of settings (asked.Typed call) = typed_exchange settings call
exchange_of settings (asked.Operation call form) = operation_exchange form settings (request_of call)
exchange_of settings (asked.Message message) = message_exchange settings message

-- The code found what the order asks for, and the request is that of its exchange: its one canonical
-- message, none where it has no wire form.
pub record Requests (order : Order) (asked : Asked) (request : Option (List ℕ)) : Type 0 where
  pub asks : AsksFor order (exchange_of order.settings asked)
  pub message : request ≡ (exchange_of order.settings asked).message
