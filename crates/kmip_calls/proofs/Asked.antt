-- The call that words ask for, and why they ask for none.
use Rattle.std.proofs.Common.{◌≡◌, ℕ, List, Option, Some, None, IsSome, Result, Ok, Err, IfOk, MatchOption, true, false, refl, sym, ap, subst, ◌∙◌}
use Rattle.std.specs.Option.{option_map, option_and_then, is_some}
use Rattle.kmip_client.specs.Operation.{TreeRequest}
use Rattle.kmip_enums.specs.declared.operation.Operation.{Operation}
use Rattle.kmip_wire.specs.Tree.{Tree}
use Rattle.kmip_operation_words.specs.Calls.{request_with, table_request}
use Rattle.kmip_words.specs.Calls.{typed_call}
use Rattle.kmip_words.specs.declared.call.Call.{Call}
use Rattle.kmip_calls.specs.Calls.{Asked, typed, operation, call_of, call_written, or_operation, is_of_table, Refuses, RefusesBy}
use Rattle.kmip_calls.specs.Written.{written_words}
use Rattle.kmip_calls.specs.declared.written.Word.{Word}

pub by_typed : (call : Option Call) (asked : Option (Operation × Tree)) → is_some call ≡ true →
    IsSome (or_operation call (option_map (request_with None) asked))
by_typed (Some call) asked some = refl
by_typed None asked some = absurd (cc some)

pub by_table : (call : Option Call) (asked : Option (Operation × Tree)) → IsSome asked →
    IsSome (or_operation call (option_map (request_with None) asked))
by_table (Some call) asked some = refl
by_table None (Some asked) some = refl
by_table None None some = absurd (cc some)

pub by_neither : (call : Option Call) (asked : Option (Operation × Tree)) → is_some call ≡ false →
    asked ≡ None → or_operation call (option_map (request_with None) asked) ≡ None
by_neither (Some call) asked none is = absurd (cc none)
by_neither None asked none is = rw is refl

-- ---- of words as they are given

pub call_is : (words : List Word) (id : Option (List ℕ)) (written : List (List ℕ)) →
    Some written ≡ written_words words → call_of words id ≡ call_written id written
unfolding call_of
call_is words id written is = ap (option_and_then (call_written id)) (sym is)

pub no_words : (words : List Word) (id : Option (List ℕ)) → None ≡ written_words words →
    call_of words id ≡ None
unfolding call_of
no_words words id is = ap (option_and_then (call_written id)) (sym is)

pub typed_is : (words : List Word) (id : Option (List ℕ)) (written : List (List ℕ)) (call : Call) →
    Some written ≡ written_words words → Some call ≡ typed_call written →
    call_of words id ≡ Some (typed call)
typed_is words id written call is found =
    call_is words id written is
    ∙ ap (λ x. or_operation x (table_request written id)) (sym found)

pub table_is : (words : List Word) (id : Option (List ℕ)) (written : List (List ℕ))
    (request : Option TreeRequest) → Some written ≡ written_words words →
    None ≡ typed_call written → request ≡ table_request written id →
    call_of words id ≡ option_map operation request
table_is words id written request is none asked =
    call_is words id written is
    ∙ ap (λ x. or_operation x (table_request written id)) (sym none)
    ∙ ap (option_map operation) (sym asked)

pub refuses : (words : List Word) (written : List (List ℕ)) (text : List ℕ) →
    Some written ≡ written_words words → RefusesBy (is_of_table written) written text →
    Refuses words text
refuses words written text is by = λ other found.
    let same : written ≡ other = cc (is, found) in
    rw (sym same) by

pub refuses_nothing : (words : List Word) (text : List ℕ) → None ≡ written_words words →
    Refuses words text
refuses_nothing words text is = λ other found. absurd (cc (is, found))

pub refusals : {E : Type 0} (result : Result (Option (List ℕ)) E) (words : List Word)
    (written : List (List ℕ)) → Some written ≡ written_words words →
    IfOk result (λ why. MatchOption why (IsSome (call_written None written))
    (λ text. (call_written None written ≡ None) × RefusesBy (is_of_table written) written text)) →
    IfOk result (λ why. MatchOption why (IsSome (call_of words None))
    (λ text. (call_of words None ≡ None) × Refuses words text))
refusals (Ok None) words written is some =
    subst (λ (asked : Option Asked). IsSome asked) (sym (call_is words None written is)) some
refusals (Ok (Some text)) words written is none =
    (call_is words None written is ∙ none.0, refuses words written text is none.1)
refusals (Err error) words written is given = tt
