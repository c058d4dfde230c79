-- What the parts of the program did, put together.
use Rattle.std.proofs.Common.{◌≡◌, inl, inr, ℕ, List, refl, ap, subst, Option}
use Rattle.kmip_link.specs.State.{SourceState, SinkState}
use Rattle.kmip_words.specs.declared.ending.Ending.{Ending}
use Rattle.kmip_caller.specs.Exchange.{Exchange, Carried, CarriedPart}
use Rattle.kmip_caller.specs.Record.{words_kept, record_with}
use Rattle.kmip_caller.specs.Asked.{AsksFor, AsksForNone}
use Rattle.kmip_caller.specs.Program.{Makes, Streams, streams, Refuses, Reports, Runs}
use Rattle.kmip_caller.specs.declared.command.Order.{Order}
use Rattle.kmip_caller.specs.declared.program.Status.{Status}
use Rattle.kmip_caller.specs.declared.program.Status.TheVariants.{OutOfMemory}
use Rattle.kmip_caller.proofs.Asked.{asked_once}
use Rattle.kmip_caller.proofs.Refusing.{nothing_written}

-- a call was made and reported
pub made : (order : Order) (w0 w1 : SinkState) (s0 s1 : SourceState) (f0 f1 k0 k1 : SinkState)
    (words : Option (List (List ℕ))) (response : Option (List ℕ)) (line : List ℕ) (ending : Ending)
    (status : Status) → Makes order w0 w1 s0 s1 response line ending →
    ((exchange : Exchange) → AsksFor order exchange
    → words ≡ words_kept order.file order.words exchange.without_credential) →
    Reports (record_with words response) line ending f0 f1 k0 k1 status →
    Runs order (streams w0 s0 f0 k0) (streams w1 s1 f1 k1) status
made order w0 w1 s0 s1 f0 f1 k0 k1 words response line ending status it kept reports =
    let R : List ℕ → Type 0 = λ entry. Reports entry line ending f0 f1 k0 k1 status in
    let P : Exchange → Type 0 = λ k. Carried order.settings.limit k w0 w1 s0 s1 response line ending in
    record {
      refuses = λ none. absurd (none it.exchange it.asks);
      makes = λ exchange asks. inl (record {
        response = response;
        line = line;
        ending = ending;
        carried = subst P (asked_once order it.exchange exchange it.asks asks) it.carried;
        reports = subst R
            (ap (λ (w : Option (List (List ℕ))). record_with w response) (kept exchange asks)) reports;
      });
    }

-- no call was made
pub refused : (order : Order) (before after : Streams) (status : Status) → AsksForNone order
    → Refuses order before after status → Runs order before after status
refused order before after status none it = record {
  refuses = λ same. it;
  makes = λ exchange asks. absurd (none exchange asks);
}

-- memory ran out before there was an answer
pub broken_off : (order : Order) (w0 w1 : SinkState) (s0 s1 : SourceState) (f k : SinkState)
    → (AsksForNone order → w1 ≡ w0) → (AsksForNone order → s1 ≡ s0) →
    ((exchange : Exchange) → AsksFor order exchange
    → CarriedPart order.settings.limit exchange w0 w1 s0 s1) →
    Runs order (streams w0 s0 f k) (streams w1 s1 f k) OutOfMemory
broken_off order w0 w1 s0 s1 f k unsent unread part = record {
  refuses = λ none. record {
    status_is = inr refl;
    wire = unsent none;
    source = unread none;
    kept = refl;
    errors = nothing_written order k;
  };
  makes = λ exchange asks. inr (record { status_is = refl; carried = part exchange asks; kept = refl; errors = refl });
}
