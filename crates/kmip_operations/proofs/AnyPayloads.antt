-- What is told of a payload that the typed reading has no words for.
use Rattle.std.proofs.Common.{◌≡◌, ◌≢◌, ◌==◌, ℕ, List, ◌∙◌, ap, sym, Bool, Result, Ok, Err, IfOk, OnOk}
use Rattle.std.specs.List.{find}
use Rattle.kmip_wire.specs.Tree.{Tree, structure, trees_of, list_of-trees_of}
use Rattle.kmip_wire.specs.Parts.{tag_of}
use Rattle.kmip_words.specs.Refusal.{item_with}
use Rattle.kmip_client.specs.Outcome.{Answer, Gives}
use Rattle.kmip_client.specs.declared.error.Error.TheVariants.{OutOfMemory}
use Rattle.kmip_words.proofs.Replies.{given_is}
use Rattle.kmip_operations.specs.AnyPayload.{is_unread}

-- what is said of the answer that was given is so of the one that is due
pub unread_due : {E : Type 0} (result : Result Bool E) (due given : Answer) → Gives due given
    → IfOk result (λ unread. unread ≡ is_unread given) → OnOk result (given ≢ Err OutOfMemory)
    → IfOk result (λ unread. unread ≡ is_unread due)
unread_due (Ok unread) due given gives is some = is ∙ ap is_unread (given_is due given gives some)
unread_due (Err error) due given gives is some = tt

-- the first item with a tag
pub found_in : (payload : Tree) (tag wanted : ℕ) (items : List Tree)
    → structure tag (trees_of items) ≡ payload
    → find (λ item. tag_of item == wanted) items ≡ item_with wanted payload
found_in payload tag wanted items is =
    ap (find (λ item. tag_of item == wanted)) (sym (list_of-trees_of items)) ∙ ap (item_with wanted) is
