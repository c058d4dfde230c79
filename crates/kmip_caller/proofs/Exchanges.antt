-- What a call answers, by what was sent and read.
use Rattle.std.proofs.Common.{◌≡◌, ℕ, List, [], ◌++◌, take, refl, ◌∙◌, ap, sym, arith, subst, Option, Some, None, option_map, Result, Ok, Err, IfOk, OnErr, IsTrue, cond, codes}
use Rattle.std.proofs.lemmas.Grind.{common_steps}
use Rattle.kmip_link.specs.State.{SourceState, SinkState, FaultCountRose, source_left}
use Rattle.kmip_client.specs.declared.error.Error.TheVariants.{SerializeError, RequestWriteError, ResponseReadError}
use Rattle.kmip_words.specs.Streams.{Gives, GivesPart, WrotePart, WroteProperPart}
use Rattle.kmip_words.specs.Exchange.{or_empty, loses_link}
use Rattle.kmip_words.specs.declared.ending.Ending.TheVariants.{Lost, Refused}
use Rattle.kmip_caller.specs.Wire.{taken_at, IsOneAtMost}
use Rattle.kmip_caller.specs.Exchange.{Exchange, failure_line, IsLinkFailed, not_sent, answered, write_failed, read_failed, most_taken, CarriedPart}
use Rattle.kmip_caller.specs.Asked.{AsksFor, exchange_of, Requests}
use Rattle.kmip_caller.specs.Program.{Makes}
use Rattle.kmip_caller.specs.declared.command.Order.{Order}
use Rattle.kmip_caller.specs.declared.requested.Asked.{Asked}
use Rattle.kmip_caller.specs.declared.exchange.CallEnd.{CallEnd}
use Rattle.kmip_caller.proofs.Asked.{IsReading, exchange_reading, asked_once}

pub append_none : (xs : List ℕ) → xs ≡ xs ++ []
append_none xs = grind (arith, common_steps)

gives_none : (s : SourceState) → Gives s s 0
gives_none s = record { within = omega arith; pos = omega arith; ever = refl }

-- nothing is a part of what is to be taken
pub none_taken : (s : SourceState) (most : ℕ) → GivesPart s s most
none_taken s most = (0, omega arith, gives_none s)

-- ---- what the code answers, unless memory ran out

pub not_sent_or : {E : Type 0} (order : Order) (asked : Asked) (bytes text : List ℕ)
    (w : SinkState) (s : SourceState) (result : Result CallEnd E) → Requests order asked None →
    bytes ≡ [] → text ≡ codes "request has no wire form" →
    IfOk result (λ end. end.line.items ≡ failure_line (SerializeError text)) →
    IfOk result (λ end. end.ending ≡ cond (loses_link (SerializeError text)) Lost Refused) →
    IfOk result (λ end. option_map (λ r. r.items) end.response ≡ Some bytes) →
    IfOk result (λ end. Makes order w w s s (option_map (λ r. r.items) end.response)
    end.line.items end.ending)
not_sent_or order asked bytes text w s (Ok end) asks empty is line ends response = record {
  exchange = exchange_of order.settings asked;
  asks = asks.asks;
  carried = not_sent (sym asks.message) (response ∙ ap (λ (l : List ℕ). Some l) empty)
      (line ∙ ap (λ (t : List ℕ). failure_line (SerializeError t)) is) ends refl refl;
}
not_sent_or order asked bytes text w s (Err error) asks empty is line ends response = tt

pub sent_or : {E : Type 0} (order : Order) (asked : Asked) (request bytes : List ℕ)
    (w0 w1 : SinkState) (s0 s1 : SourceState) (result : Result CallEnd E)
    → Requests order asked (Some request) →
    (IsTrue w0.tells → w1.sent ≡ w0.sent ++ request) → IsOneAtMost order.settings.limit bytes →
    (IsTrue s0.tells → Gives s0 s1 (taken_at (source_left s0) order.settings.limit)
    × (bytes ≡ take (taken_at (source_left s0) order.settings.limit) (source_left s0))) →
    IfOk result (λ end. end.line.items ≡ (exchange_of order.settings asked).line bytes) →
    IfOk result (λ end. end.ending ≡ (exchange_of order.settings asked).ending bytes) →
    IfOk result (λ end. option_map (λ r. r.items) end.response ≡ Some bytes) →
    IfOk result (λ end. Makes order w0 w1 s0 s1 (option_map (λ r. r.items) end.response)
    end.line.items end.ending)
sent_or order asked request bytes w0 w1 s0 s1 (Ok end) asks writes one reads text ends response =
    let reading : IsReading order.settings.limit (exchange_of order.settings asked) = exchange_reading order.settings asked in
    record {
      exchange = exchange_of order.settings asked;
      asks = asks.asks;
      carried = answered request (sym asks.message) bytes response text ends one writes
          (λ visible.
          let it = reads visible in
          record {
            gives = it.0;
            bytes_are = it.1;
            line_is = reading.line (source_left s0) bytes it.1 one;
            ending_is = reading.ending (source_left s0) bytes it.1 one;
          });
    }
sent_or order asked request bytes w0 w1 s0 s1 (Err error) asks writes one reads text ends response = tt

pub write_fault_or : {E : Type 0} (order : Order) (asked : Asked) (request text : List ℕ)
    (w0 w1 : SinkState) (s0 s1 : SourceState) (result : Result CallEnd E)
    → Requests order asked (Some request) → IsLinkFailed text →
    FaultCountRose w0.faults w1.faults × (IsTrue w0.tells → WroteProperPart w0 w1 request) × (s1 ≡ s0) →
    IfOk result (λ end. end.line.items ≡ failure_line (RequestWriteError text)) →
    IfOk result (λ end. end.ending ≡ cond (loses_link (RequestWriteError text)) Lost Refused) →
    IfOk result (λ end. option_map (λ r. r.items) end.response ≡ None) →
    IfOk result (λ end. Makes order w0 w1 s0 s1 (option_map (λ r. r.items) end.response)
    end.line.items end.ending)
write_fault_or order asked request text w0 w1 s0 s1 (Ok end) asks is fault line ends response = record {
  exchange = exchange_of order.settings asked;
  asks = asks.asks;
  carried = write_failed request (sym asks.message) response text is line ends fault.0 fault.1
      fault.2;
}
write_fault_or order asked request text w0 w1 s0 s1 (Err error) asks is fault line ends response = tt

pub read_fault_or : {E : Type 0} (order : Order) (asked : Asked) (request text : List ℕ)
    (w0 w1 : SinkState) (s0 s1 : SourceState) (result : Result CallEnd E)
    → Requests order asked (Some request) → IsLinkFailed text →
    FaultCountRose s0.faults s1.faults × (IsTrue w0.tells → w1.sent ≡ w0.sent ++ request)
    × (IsTrue s0.tells → GivesPart s0 s1 (taken_at (source_left s0) order.settings.limit)) →
    IfOk result (λ end. end.line.items ≡ failure_line (ResponseReadError text)) →
    IfOk result (λ end. end.ending ≡ cond (loses_link (ResponseReadError text)) Lost Refused) →
    IfOk result (λ end. option_map (λ r. r.items) end.response ≡ None) →
    IfOk result (λ end. Makes order w0 w1 s0 s1 (option_map (λ r. r.items) end.response)
    end.line.items end.ending)
read_fault_or order asked request text w0 w1 s0 s1 (Ok end) asks is fault line ends response = record {
  exchange = exchange_of order.settings asked;
  asks = asks.asks;
  carried = read_failed request (sym asks.message) response text is line ends fault.0 fault.1
      fault.2;
}
read_fault_or order asked request text w0 w1 s0 s1 (Err error) asks is fault line ends response = tt

-- ---- a call that was broken off

-- nothing was sent, and nothing was taken
pub part_unsent : (limit : Option ℕ) (exchange : Exchange) (w : SinkState) (s : SourceState)
    → CarriedPart limit exchange w w s s
part_unsent limit exchange w s = record
    { sent = λ visible. (0, omega arith, append_none w.sent); taken = λ visible. none_taken s _ }

-- a part was sent, and a part was taken
pub part_sent : (order : Order) (asked : Asked) (request : List ℕ) (w0 w1 : SinkState)
    (s0 s1 : SourceState) → Requests order asked (Some request) →
    (IsTrue w0.tells → WrotePart w0 w1 request)
    → (IsTrue s0.tells → GivesPart s0 s1 (taken_at (source_left s0) order.settings.limit)) →
    (exchange : Exchange) → AsksFor order exchange → CarriedPart order.settings.limit exchange w0 w1 s0 s1
part_sent order asked request w0 w1 s0 s1 asks wrote took exchange given =
    let limit : Option ℕ = order.settings.limit in
    let wanted : Exchange = exchange_of order.settings asked in
    let W : List ℕ → Type 0 = λ l. WrotePart w0 w1 l in
    let G : ℕ → Type 0 = λ n. GivesPart s0 s1 n in
    let C : Exchange → Type 0 = λ k. CarriedPart limit k w0 w1 s0 s1 in
    subst C (asked_once order wanted exchange asks.asks given) (record {
      sent = λ visible. subst W (ap or_empty asks.message) (wrote visible);
      taken = λ visible. subst G
          (ap (λ (m : Option (List ℕ)). most_taken m (source_left s0) limit) asks.message)
          (took visible);
    })

-- what is so of an error, whichever it is
pub on_err : {T E : Type 0} {P : Type 0} (result : Result T E) → P → OnErr result P
on_err (Ok value) holds = tt
on_err (Err error) holds = holds
