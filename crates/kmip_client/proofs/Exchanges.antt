-- How an exchange ended, at each of its ends.
use Rattle.std.proofs.Common.{◌≡◌, ℕ, ◌+◌, ◌-◌, ◌≤◌, List, [], ◌++◌, take, refl, ◌∙◌, ap, sym, arith, subst, true, false, Option, Some, None, Result, Ok, Err, IsErrOf, codes, ◌⊎◌, inl, inr}
use Rattle.std.proofs.lemmas.Grind.{common_steps}
use Rattle.kmip_link.specs.State.{LinkState, left, Keeps, Writes, FaultCountRose}
use Rattle.kmip_enums.specs.declared.operation.Operation.{Operation}
use Rattle.kmip_client.specs.declared.error.Error.{Error}
use Rattle.kmip_client.specs.declared.error.Error.TheVariants.{ConfigurationError, SerializeError, RequestWriteError, ResponseReadError, DeserializeError, ServerError, InternalError, ItemNotFound, Unknown, OutOfMemory}
use Rattle.kmip_client.specs.declared.message.MessageStop.{MessageStop}
use Rattle.kmip_client.specs.Transfer.{Takes, WritesPart}
use Rattle.kmip_client.specs.Message.{Message, message_at, taken_for, Comes, ReadsMessage, IsRead}
use Rattle.kmip_client.specs.Client.{loses_connection, lacks_memory}
use Rattle.kmip_client.specs.Outcome.{seen_by, OutcomeOf, outcome_by, answer_by, left_for, Moves, Exchanged, completed, write_failed, read_failed, sending_cut, reading_cut, Gives, reading_answer, Caused, given, no_memory, FailsReading, reading_failed, FailsWriting, writing_failed, read_answer}
use Rattle.kmip_client.proofs.Messages.{message_short}
use Rattle.kmip_client.proofs.MessageAnswers.{OfMessages, message_says}

append_none : (xs : List ℕ) → xs ≡ xs ++ []
append_none xs = grind (arith, common_steps)

moves_none : (a : LinkState) → Moves a a [] 0
moves_none a = record {
  sent_is = append_none a.sent;
  pos = omega arith;
  ever =
      record { more = []; is = append_none a.ever };
  still = λ h. refl;
}

-- nothing was sent, since the request has no form
pub not_sent : {A : Type 0} (a : LinkState) (reading : List ℕ → Result A Error) (limit : Option ℕ)
    (rest : List ℕ) → Exchanged (outcome_by None reading limit rest) a a
    (Err (SerializeError (codes "request has no wire form")))
not_sent a reading limit rest = completed refl (moves_none a)

-- or since memory ran out
pub short_at_start : {A : Type 0} (a : LinkState) (o : OutcomeOf A) → Exchanged o a a (Err OutOfMemory)
short_at_start a o = sending_cut refl 0 (omega arith) (moves_none a)

-- a part of the request was written
moves_part : {before after : LinkState} (request : List ℕ) (n : ℕ)
    → Writes before after (take n request) → Moves before after (take n request) 0
moves_part request n writes = record {
  sent_is = writes.sent;
  pos = omega (arith, writes.pos);
  ever =
      record { more = writes.ever.0; is = writes.ever.1 };
  still = writes.still;
}

-- the writing stopped
pub send_stopped : {A : Type 0} {before after : LinkState} (request : List ℕ)
    (reading : List ℕ → Result A Error) (limit : Option ℕ) (rest : List ℕ) (error : Error)
    → WritesPart before after request →
    ((error ≡ RequestWriteError (codes "link failed")) × FaultCountRose before.faults after.faults)
    ⊎ (error ≡ OutOfMemory) →
    Exchanged (outcome_by (Some request) reading limit rest) before after (Err error)
send_stopped request reading limit rest error part (inl failed) =
    write_failed (ap (λ e. Err e) failed.0) failed.1 part.0 part.1
    (moves_part request part.0 part.2)
send_stopped request reading limit rest error part (inr short) =
    sending_cut (ap (λ e. Err e) short) part.0 (omega (arith, part.1))
    (moves_part request part.0 part.2)

-- a request was written and so many bytes were read
moves_both : {before between after : LinkState} {request : List ℕ} {n : ℕ}
    → Writes before between request → Takes between after n → Moves before after request n
moves_both {n = n} writes takes = record {
  sent_is = takes.sent ∙ writes.sent;
  pos = takes.pos ∙ ap (λ p. p + n) writes.pos;
  ever =
      record { more = writes.ever.0; is = takes.ever ∙ writes.ever.1 };
  still =
      λ h. takes.ever ∙ writes.still h;
}

left_same : {before between after : LinkState} {request : List ℕ} {n : ℕ}
    → Writes before between request → Takes between after n → left between ≡ left_for before after
left_same writes takes = rw (writes.pos, takes.ever) refl

gives_cases : {A : Type 0} (expected answer : Result A Error) → Gives expected answer
    → (answer ≡ expected) ⊎ (answer ≡ Err OutOfMemory)
gives_cases expected (Ok payload) gives = inl gives
gives_cases expected (Err (ConfigurationError t)) gives = inl gives
gives_cases expected (Err (SerializeError t)) gives = inl gives
gives_cases expected (Err (RequestWriteError t)) gives = inl gives
gives_cases expected (Err (ResponseReadError t)) gives = inl gives
gives_cases expected (Err (DeserializeError t)) gives = inl gives
gives_cases expected (Err (ServerError t)) gives = inl gives
gives_cases expected (Err (InternalError t)) gives = inl gives
gives_cases expected (Err (ItemNotFound t)) gives = inl gives
gives_cases expected (Err (Unknown t)) gives = inl gives
gives_cases expected (Err OutOfMemory) gives = inr refl

-- memory ran out after the writing
short_after : {A : Type 0} {before between after : LinkState} (request : List ℕ)
    (reading : List ℕ → Result A Error) (limit : Option ℕ) (answer : Result A Error) (n : ℕ) →
    Writes before between request → Takes between after n
    → n ≤ taken_for (left between) (message_at (left between) limit)
    → answer ≡ Err OutOfMemory →
    Exchanged (outcome_by (Some request) reading limit (left_for before after)) before after answer
short_after {before = before} {between = between}
    {after = after} request reading limit answer n writes takes within is =
    let P : List ℕ → Type 0 = λ rest. n ≤ taken_for rest (message_at rest limit) in
    reading_cut is n (subst P (left_same writes takes) within) (moves_both writes takes)

-- the reading came to this
came_to : {A : Type 0} {before between after : LinkState} (request : List ℕ)
    (reading : List ℕ → Result A Error) (limit : Option ℕ) (taken : List ℕ) (here : Message)
    (answer : Result A Error) →
    Writes before between request → Comes between after limit taken here
    → (answer ≡ answer_by reading here) ⊎ (answer ≡ Err OutOfMemory) →
    Exchanged (outcome_by (Some request) reading limit (left_for before after)) before after answer
came_to {before = before} {between = between}
    {after = after} request reading limit taken here answer writes comes (inl is) =
    let same : left between ≡ left_for before after = left_same writes comes.takes in
    let front : message_at (left_for before after) limit ≡ here =
    ap (λ rest. message_at rest limit) (sym same) ∙ comes.front in
    let P : Message → Type 0 = λ m. Moves before after request (taken_for (left_for before after) m) in
    let Q : List ℕ → Type 0 = λ rest. Moves before after request (taken_for rest here) in
    completed (is ∙ ap (λ m. answer_by reading m) (sym front))
    (subst P (sym front) (subst Q same (moves_both writes comes.takes)))
came_to {before = before} {between = between}
    {after = after} request reading limit taken here answer writes comes (inr is) =
    let P : Message → Type 0 = λ m. taken_for (left between) here ≤ taken_for (left between) m in
    short_after request reading limit answer _ writes comes.takes (subst P (sym comes.front) (omega arith)) is

-- the reading ended
pub read_ended : {A : Type 0} {before between after : LinkState} (request : List ℕ)
    (reading : List ℕ → Result A Error) (limit : Option ℕ) (taken : List ℕ)
    (read : Result (Unit {0}) MessageStop) (answer : Result A Error) →
    Keeps before between → Writes before between request
    → ReadsMessage between after limit taken read
    → (IsErrOf read MessageStop.Fault → FaultCountRose between.faults after.faults) →
    Gives (reading_answer reading taken read) answer →
    Exchanged (outcome_by (Some request) reading limit (left_for before after)) before after answer
read_ended request reading limit taken (Ok u) answer keeps writes reads rose gives =
    came_to request reading limit taken (Message.Whole taken) answer writes reads (gives_cases _ answer gives)
read_ended request reading limit taken (Err MessageStop.Ended) answer keeps writes reads rose gives =
    came_to request reading limit taken Message.Ended answer writes reads (gives_cases _ answer gives)
read_ended request reading limit taken (Err (MessageStop.Refused error)) answer keeps writes reads rose gives =
    came_to request reading limit taken (Message.Refused error) answer writes reads (gives_cases _ answer gives)
read_ended {before = before} {between = between} {after = after} request reading limit taken
    (Err MessageStop.Fault) answer keeps writes reads rose gives =
    elim (gives_cases (Err (ResponseReadError (codes "link failed"))) answer gives) [
      | inl is ↦
          let P : List ℕ → Type 0 = λ rest. reads.0 ≤ taken_for rest (message_at rest limit) in
          read_failed is (omega (arith, keeps.faults, rose refl)) reads.0
          (subst P (left_same writes reads.1.takes) reads.1.within)
          (moves_both writes reads.1.takes)
      | inr is ↦ short_after request reading limit answer reads.0 writes reads.1.takes reads.1.within is
    ]
read_ended request reading limit taken (Err MessageStop.OutOfMemory) answer keeps writes reads rose gives =
    elim (gives_cases (Err OutOfMemory) answer gives) [
      | inl is ↦ short_after request reading limit answer reads.0 writes reads.1.takes reads.1.within is
      | inr is ↦ short_after request reading limit answer reads.0 writes reads.1.takes reads.1.within is
    ]

-- bytes that come to this message were given
bytes_given : {A : Type 0} (before after : ℕ) (request : List ℕ) (reading : List ℕ → Result A Error)
    (limit : Option ℕ) (rest : List ℕ) (here : Message) (answer : Result A Error) →
    message_at rest limit ≡ here → (answer ≡ answer_by reading here) ⊎ (answer ≡ Err OutOfMemory)
    → Caused (Some request) reading limit before after answer
bytes_given before after request reading limit rest here answer front (inl is) =
    given refl rest (is ∙ ap (λ m. answer_by reading m) (sym front))
bytes_given before after request reading limit rest here answer front (inr is) = no_memory is

fault_caused : {A : Type 0} (before after : ℕ) (request : List ℕ)
    (reading : List ℕ → Result A Error) (limit : Option ℕ) (answer : Result A Error)
    → FaultCountRose before after →
    (answer ≡ Err (ResponseReadError (codes "link failed"))) ⊎ (answer ≡ Err OutOfMemory)
    → Caused (Some request) reading limit before after answer
fault_caused before after request reading limit answer rose (inl is) = Caused.read_failed refl is rose
fault_caused before after request reading limit answer rose (inr is) = no_memory is

memory_caused : {A : Type 0} (before after : ℕ) (request : List ℕ)
    (reading : List ℕ → Result A Error) (limit : Option ℕ) (answer : Result A Error) →
    (answer ≡ Err OutOfMemory) ⊎ (answer ≡ Err OutOfMemory) → Caused (Some request) reading limit before after answer
memory_caused before after request reading limit answer (inl is) = no_memory is
memory_caused before after request reading limit answer (inr is) = no_memory is

-- why the reading ended so, over any link
pub read_caused : {A : Type 0} (before after : ℕ) (request : List ℕ)
    (reading : List ℕ → Result A Error) (limit : Option ℕ) (taken : List ℕ)
    (read : Result (Unit {0}) MessageStop) (answer : Result A Error) →
    IsRead limit taken read → (IsErrOf read MessageStop.Fault → FaultCountRose before after)
    → Gives (reading_answer reading taken read) answer
    → Caused (Some request) reading limit before after answer
read_caused before after request reading limit taken (Ok u) answer front rose gives =
    bytes_given before after request reading limit taken (Message.Whole taken) answer front
    (gives_cases _ answer gives)
read_caused before after request reading limit taken
    (Err MessageStop.Ended) answer front rose gives =
    bytes_given before after request reading limit [] Message.Ended answer
    (message_short [] limit (omega arith)) (gives_cases _ answer gives)
read_caused before after request reading limit taken
    (Err (MessageStop.Refused error)) answer front rose gives =
    bytes_given before after request reading limit taken (Message.Refused error) answer front
    (gives_cases _ answer gives)
read_caused before after request reading limit taken
    (Err MessageStop.Fault) answer front rose gives =
    fault_caused before after request reading limit answer (rose refl) (gives_cases _ answer gives)
read_caused before after request reading limit taken
    (Err MessageStop.OutOfMemory) answer front rose gives =
    memory_caused before after request reading limit answer (gives_cases _ answer gives)

-- the bytes that were read are those that the position passed
taken_is : {before between after : LinkState} {request : List ℕ} {n : ℕ} (taken : List ℕ)
    → Writes before between request → Takes between after n → taken ≡ take n (left between)
    → taken ≡ take (after.pos - before.pos) (left_for before after)
taken_is {before = before} {between = between} {after = after} {n = n} taken writes takes is =
    let passed : n ≡ after.pos - before.pos = omega (arith, takes.pos, writes.pos) in
    is ∙ ap (λ k. take k (left between)) passed ∙ ap (λ l. take (after.pos - before.pos) l) (left_same writes takes)

pub read_bytes : {A : Type 0} {before between : LinkState} (after : LinkState) (request : List ℕ)
    (reading : List ℕ → Result A Error) (limit : Option ℕ) (taken : List ℕ)
    (read : Result (Unit {0}) MessageStop) (answer : Result A Error) →
    Writes before between request → ReadsMessage between after limit taken read
    → Gives (reading_answer reading taken read) answer → lacks_memory answer ≡ false →
    taken ≡ take (after.pos - before.pos) (left_for before after)
read_bytes after request reading limit taken (Ok u) answer writes reads gives room =
    taken_is taken writes reads.takes reads.bytes
read_bytes after request reading limit taken
    (Err MessageStop.Ended) answer writes reads gives room =
    taken_is taken writes reads.takes reads.bytes
read_bytes after request reading limit taken
    (Err (MessageStop.Refused error)) answer writes reads gives room =
    taken_is taken writes reads.takes reads.bytes
read_bytes after request reading limit taken
    (Err MessageStop.Fault) answer writes reads gives room =
    taken_is taken writes reads.1.takes reads.2
read_bytes after request reading limit taken (Err MessageStop.OutOfMemory) answer writes reads gives room =
    elim (gives_cases (Err OutOfMemory) answer gives) [
      | inl is ↦ absurd (let e : true ≡ false = rw is at room in cc)
      | inr is ↦ absurd (let e : true ≡ false = rw is at room in cc)
    ]

-- the request was not written out
pub serialize_stopped : {A : Type 0} (request : Option (List ℕ)) (reading : List ℕ → Result A Error)
    (limit : Option ℕ) (rest : List ℕ) (a : LinkState) (error : Error) →
    ((error ≡ SerializeError (codes "request has no wire form")) × (request ≡ None)) ⊎ (error ≡ OutOfMemory) →
    Exchanged (outcome_by request reading limit rest) a a (Err error)
serialize_stopped request reading limit rest a error (inl refused) =
    rw (refused.0, refused.1) (not_sent a reading limit rest)
serialize_stopped request reading limit rest a error (inr short) = rw short (short_at_start a _)

-- memory that runs out after an exchange leaves what was sent and taken
pub short_anyway : {A : Type 0} {o : OutcomeOf A} {before after : LinkState}
    {answer : Result A Error} → Exchanged o before after answer
    → Exchanged o before after (Err OutOfMemory)
short_anyway {o = o} (completed is moves) = reading_cut refl o.taken (omega arith) moves
short_anyway (write_failed is rose n within moves) = sending_cut refl n (omega arith) moves
short_anyway (read_failed is rose n within moves) = reading_cut refl n within moves
short_anyway (sending_cut is n within moves) = sending_cut refl n within moves
short_anyway (reading_cut is n within moves) = reading_cut refl n within moves

-- an answer with its diagnostic, or out of memory in its place
abbrev pub IsKept : {A : Type 0} → Result A Error → Result A Error → Type 0
IsKept answer kept = (kept ≡ answer) ⊎ (kept ≡ Err OutOfMemory)

pub kept_exchanged : {A : Type 0} {o : OutcomeOf A} {before after : LinkState}
    (answer kept : Result A Error) → IsKept answer kept → Exchanged o before after answer
    → Exchanged o before after kept
kept_exchanged answer kept (inl is) exchanged = rw is exchanged
kept_exchanged answer kept (inr is) exchanged = rw is (short_anyway exchanged)

pub kept_caused : {A : Type 0} {request : Option (List ℕ)} {reading : List ℕ → Result A Error}
    {limit : Option ℕ} {before after : ℕ} (answer kept : Result A Error) → IsKept answer kept →
    Caused request reading limit before after answer → Caused request reading limit before after kept
kept_caused answer kept (inl is) caused = rw is caused
kept_caused answer kept (inr is) caused = no_memory is

-- an exchange of the bytes of a request is one of the request
pub of_request : {A : Type 0} {before after : LinkState} (reads : List ℕ → Result A Error)
    (answer : Result A Error) (request : Option (List ℕ)) (bytes sent : List ℕ) (limit : Option ℕ)
    (rest : List ℕ) →
    request ≡ Some bytes → sent ≡ bytes
    → Exchanged (outcome_by (Some sent) reads limit rest) before after answer
    → Exchanged (outcome_by request reads limit rest) before after answer
of_request reads answer request bytes sent limit rest has same exchanged = rw (has, ← same) exchanged

pub caused_by : {A : Type 0} {before after : ℕ} (reads : List ℕ → Result A Error)
    (answer : Result A Error) (request : Option (List ℕ)) (bytes sent : List ℕ) (limit : Option ℕ) →
    request ≡ Some bytes → sent ≡ bytes → Caused (Some sent) reads limit before after answer
    → Caused request reads limit before after answer
caused_by reads answer request bytes sent limit has same caused = rw (has, ← same) caused

-- what holds of a call's answer as contracts see it, and not of its payload
pub seen_loses : {P A : Type 0} (val : P → A) (answer : Result P Error)
    → loses_connection answer ≡ loses_connection (seen_by val answer)
seen_loses val (Ok payload) = refl
seen_loses val (Err error) = refl

pub seen_lacks : {P A : Type 0} (val : P → A) (answer : Result P Error)
    → lacks_memory answer ≡ lacks_memory (seen_by val answer)
seen_lacks val (Ok payload) = refl
seen_lacks val (Err OutOfMemory) = refl
seen_lacks val (Err error) = refl

-- an answer that contracts see as it is
pub seen_itself : {A : Type 0} (answer : Result A Error) → seen_by (λ payload. payload) answer ≡ answer
seen_itself (Ok payload) = refl
seen_itself (Err error) = refl

-- what a diagnostic kept beside an answer leaves of it
pub kept_is : {P Q S A : Type 0} (val : S → A) (answer kept : Result S Error)
    → (P × (kept ≡ answer)) ⊎ (Q × (kept ≡ Err OutOfMemory))
    → IsKept (seen_by val answer) (seen_by val kept)
kept_is val answer kept (inl it) = inl (ap (seen_by val) it.1)
kept_is val answer kept (inr it) = inr (ap (seen_by val) it.1)

-- ---- a failed reading

abbrev NotReading : {A : Type 0} → Result A Error → Type 0
NotReading answer = answer ≡ reading_failed → ⊥

writing_not_reading : {A : Type 0} (text : List ℕ) → NotReading {A = A} (Err (RequestWriteError text))
writing_not_reading text is = cc

memory_not_reading : {A : Type 0} → NotReading {A = A} (Err OutOfMemory)
memory_not_reading is = cc

serializing_not_reading : {A : Type 0} (text : List ℕ) → NotReading {A = A} (Err (SerializeError text))
serializing_not_reading text is = cc

refused_not_reading : {A : Type 0} (text : List ℕ) → NotReading {A = A} (Err (DeserializeError text))
refused_not_reading text is = cc

end_not_reading : {A : Type 0} → NotReading {A = A} (Err (ResponseReadError (codes "end of input")))
end_not_reading is = cc

messages_not_reading : OfMessages NotReading
messages_not_reading = record {
  ok = λ p is. cc;
  malformed = refused_not_reading;
  internal = λ t is.
      cc;
  server = λ t is. cc;
  not_found = λ t is. cc;
}

-- a message of KMIP's tables never answers so
pub typed_not_reading : (operation : Operation) (m : List ℕ) → NotReading (read_answer operation m)
typed_not_reading operation m = message_says messages_not_reading operation m

-- a failed sending is none
pub send_not_reading : {A R : Type 0} (error : Error)
    → ((error ≡ RequestWriteError (codes "link failed")) × R) ⊎ (error ≡ OutOfMemory)
    → NotReading {A = A} (Err error)
send_not_reading {A = A} error (inl failed) =
    subst (λ e. NotReading {A = A} (Err e)) (sym failed.0) (writing_not_reading _)
send_not_reading {A = A} error (inr short) = subst (λ e. NotReading {A = A} (Err e)) (sym short) memory_not_reading

-- nor is a request that was not written out
pub serialize_not_reading : {A R : Type 0} (error : Error)
    → ((error ≡ SerializeError (codes "request has no wire form")) × R) ⊎ (error ≡ OutOfMemory)
    → NotReading {A = A} (Err error)
serialize_not_reading {A = A} error (inl refused) =
    subst (λ e. NotReading {A = A} (Err e)) (sym refused.0) (serializing_not_reading _)
serialize_not_reading {A = A} error (inr short) = subst (λ e. NotReading {A = A} (Err e)) (sym short) memory_not_reading

gives_not_reading : {A : Type 0} (expected answer : Result A Error) → NotReading expected
    → Gives expected answer → NotReading answer
gives_not_reading expected answer not gives =
    elim (gives_cases expected answer gives) [
      | inl is ↦ subst NotReading (sym is) not
      | inr is ↦ subst NotReading (sym is) memory_not_reading
    ]

-- a reading that answers so failed, where no message answers so
pub fails_reading : {A T : Type 0} (state : T → LinkState) (before between after : T)
    (request : List ℕ) (reading : List ℕ → Result A Error) (limit : Option ℕ) (taken : List ℕ)
    (read : Result (Unit {0}) MessageStop) (answer : Result A Error) →
    ((m : List ℕ) → NotReading (reading m)) →
    Keeps (state before) (state between) → Writes (state before) (state between) request
    → Keeps (state between) (state after)
    → ReadsMessage (state between) (state after) limit taken read →
    (IsErrOf read MessageStop.Fault → FaultCountRose (state between).faults (state after).faults)
    → Gives (reading_answer reading taken read) answer →
    answer ≡ reading_failed → FailsReading state (Some request)
    (outcome_by (Some request) reading limit
    (left_for (state before) (state after))).taken before after
fails_reading state before between after request reading limit taken
    (Ok u) answer never keeps writes later reads rose gives is =
    absurd (gives_not_reading (reading taken) answer (never taken) gives is)
fails_reading state before between after request reading limit taken
    (Err MessageStop.Ended) answer never keeps writes later reads rose gives is =
    absurd (gives_not_reading (Err (ResponseReadError (codes "end of input"))) answer end_not_reading gives is)
fails_reading state before between after request reading limit taken
    (Err (MessageStop.Refused error)) answer never keeps writes later reads rose gives is =
    absurd (gives_not_reading _ answer (refused_not_reading _) gives is)
fails_reading state before between after request reading limit taken
    (Err MessageStop.Fault) answer never keeps writes later reads rose gives is =
    let P : List ℕ → Type 0 = λ rest. reads.0 ≤ taken_for rest (message_at rest limit) in
    record {
      message = request;
      request_is = refl;
      between = between;
      writes = writes;
      keeps =
          keeps;
      n = reads.0;
      within = subst P
          (left_same writes reads.1.takes) reads.1.within;
      takes = reads.1.takes;
      later =
          later;
      rose = rose refl;
    }
fails_reading state before between after request reading limit taken
    (Err MessageStop.OutOfMemory) answer never keeps writes later reads rose gives is =
    absurd (gives_not_reading (Err OutOfMemory) answer memory_not_reading gives is)

-- a failed reading after the bytes of a request is one after the request
pub reading_of : {A T : Type 0} (state : T → LinkState) (before after : T)
    (reads : List ℕ → Result A Error) (answer : Result A Error) (request : Option (List ℕ))
    (bytes sent : List ℕ) (limit : Option ℕ) (rest : List ℕ) →
    request ≡ Some bytes → sent ≡ bytes
    → (answer ≡ reading_failed → FailsReading state (Some sent)
    (outcome_by (Some sent) reads limit rest).taken before after) →
    answer ≡ reading_failed → FailsReading state request (outcome_by request reads limit rest).taken before after
reading_of state before after reads answer request bytes sent limit rest has same fails = rw (has, ← same) fails

-- ---- a failed writing

abbrev NotWriting : {A : Type 0} → Result A Error → Type 0
NotWriting answer = answer ≡ writing_failed → ⊥

memory_not_writing : {A : Type 0} → NotWriting {A = A} (Err OutOfMemory)
memory_not_writing is = cc

serializing_not_writing : {A : Type 0} (text : List ℕ) → NotWriting {A = A} (Err (SerializeError text))
serializing_not_writing text is = cc

reading_not_writing : {A : Type 0} (text : List ℕ) → NotWriting {A = A} (Err (ResponseReadError text))
reading_not_writing text is = cc

refused_not_writing : {A : Type 0} (text : List ℕ) → NotWriting {A = A} (Err (DeserializeError text))
refused_not_writing text is = cc

messages_not_writing : OfMessages NotWriting
messages_not_writing = record {
  ok = λ p is. cc;
  malformed = refused_not_writing;
  internal = λ t is. cc;
  server = λ t is. cc;
  not_found = λ t is. cc;
}

-- a message of KMIP's tables never answers so
pub typed_not_writing : (operation : Operation) (m : List ℕ) → NotWriting (read_answer operation m)
typed_not_writing operation m = message_says messages_not_writing operation m

-- nor is a request that was not written out
pub serialize_not_writing : {A R : Type 0} (error : Error)
    → ((error ≡ SerializeError (codes "request has no wire form")) × R) ⊎ (error ≡ OutOfMemory)
    → NotWriting {A = A} (Err error)
serialize_not_writing {A = A} error (inl refused) =
    subst (λ e. NotWriting {A = A} (Err e)) (sym refused.0) (serializing_not_writing _)
serialize_not_writing {A = A} error (inr short) = subst (λ e. NotWriting {A = A} (Err e)) (sym short) memory_not_writing

gives_not_writing : {A : Type 0} (expected answer : Result A Error) → NotWriting expected
    → Gives expected answer → NotWriting answer
gives_not_writing expected answer not gives =
    elim (gives_cases expected answer gives) [
      | inl is ↦ subst NotWriting (sym is) not
      | inr is ↦ subst NotWriting (sym is) memory_not_writing
    ]

-- nor is a reading, where no message answers so
pub read_not_writing : {A : Type 0} (reading : List ℕ → Result A Error) (taken : List ℕ)
    (read : Result (Unit {0}) MessageStop) (answer : Result A Error)
    → ((m : List ℕ) → NotWriting (reading m)) → Gives (reading_answer reading taken read) answer
    → NotWriting answer
read_not_writing reading taken (Ok u) answer never gives = gives_not_writing (reading taken) answer (never taken) gives
read_not_writing reading taken (Err MessageStop.Ended) answer never gives =
    gives_not_writing (Err (ResponseReadError (codes "end of input"))) answer (reading_not_writing _) gives
read_not_writing reading taken (Err (MessageStop.Refused error)) answer never gives =
    gives_not_writing _ answer (refused_not_writing _) gives
read_not_writing reading taken (Err MessageStop.Fault) answer never gives =
    gives_not_writing (Err (ResponseReadError (codes "link failed"))) answer (reading_not_writing _) gives
read_not_writing reading taken (Err MessageStop.OutOfMemory) answer never gives =
    gives_not_writing (Err OutOfMemory) answer memory_not_writing gives

pub error_is : {A : Type 0} {e f : Error} → ◌≡◌ {A = Result A Error} (Err e) (Err f) → e ≡ f
error_is is = cc

-- a failed writing of the bytes of a request is one of the request
pub writing_of : {A T : Type 0} (state : T → LinkState) (before after : T) (answer : Result A Error)
    (request : Option (List ℕ)) (bytes sent : List ℕ) → request ≡ Some bytes → sent ≡ bytes
    → (answer ≡ writing_failed → FailsWriting state (Some sent) before after) →
    answer ≡ writing_failed → FailsWriting state request before after
writing_of state before after answer request bytes sent has same fails = rw (has, ← same) fails

pub kept_writing : {A R : Type 0} (answer kept : Result A Error) → IsKept answer kept
    → (answer ≡ writing_failed → R) → kept ≡ writing_failed → R
kept_writing answer kept (inl same) fails is = fails (sym same ∙ is)
kept_writing answer kept (inr short) fails is = absurd (subst NotWriting (sym short) memory_not_writing is)

pub kept_reading : {A R : Type 0} (answer kept : Result A Error) → IsKept answer kept
    → (answer ≡ reading_failed → R) → kept ≡ reading_failed → R
kept_reading answer kept (inl same) fails is = fails (sym same ∙ is)
kept_reading answer kept (inr short) fails is = absurd (subst NotReading (sym short) memory_not_reading is)
