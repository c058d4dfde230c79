-- What stands at the front, by what its head says, and what each end of a reading says of that.
use Rattle.std.proofs.Common.{◌≡◌, ℕ, ◌+◌, ◌<◌, ◌≤◌, List, ◌++◌, length, take, refl, ◌∙◌, ap, sym, arith, subst, Option, Result, Ok, Err, IsErrOf, length-append, inl, inr}
use Rattle.std.proofs.lemmas.Bool.{cases_lt}
use Rattle.std.proofs.lemmas.List.{length-take, length-take-le, take-append-le, take-take}
use Rattle.std.proofs.Math.Seq.{take-length}
use Rattle.kmip_wire.specs.Heads.{head_says}
use Rattle.kmip_wire.specs.declared.error.HeadError.{HeadError}
use Rattle.kmip_link.specs.State.{LinkState, left}
use Rattle.kmip_client.specs.Transfer.{Takes, TakesPart}
use Rattle.kmip_client.specs.Message.{Message, Ended, Refused, Whole, message_at, message_by, taken_for, Comes, ReadsMessage, IsRead}
use Rattle.kmip_client.specs.MessageStop.{message_stop_of, head_stop_of}
use Rattle.kmip_client.specs.declared.transfer.ReadStop.{ReadStop}
use Rattle.kmip_client.specs.declared.message.MessageStop.{MessageStop}
use Rattle.kmip_client.proofs.Transfers.{takes_on, bytes_from, left_length}

pub message_short : (rest : List ℕ) (limit : Option ℕ) → length rest < 8 → message_at rest limit ≡ Ended
unfolding message_at
message_short rest limit short = grind arith

with_head : (rest : List ℕ) (limit : Option ℕ) → 8 ≤ length rest
    → message_at rest limit ≡ message_by (head_says (take 8 rest) limit) rest
unfolding message_at
with_head rest limit whole = grind arith

pub message_refused : (rest : List ℕ) (limit : Option ℕ) (error : HeadError) → 8 ≤ length rest
    → head_says (take 8 rest) limit ≡ Err error → message_at rest limit ≡ Refused error
message_refused rest limit error whole says = with_head rest limit whole ∙ ap (λ h. message_by h rest) says

cut_by : (n : ℕ) (rest : List ℕ) → length rest < n + 8 → message_by (Ok n) rest ≡ Ended
cut_by n rest cut = grind arith

whole_by : (n : ℕ) (rest : List ℕ) → n + 8 ≤ length rest → message_by (Ok n) rest ≡ Whole (take (n + 8) rest)
whole_by n rest all = grind arith

pub message_cut : (rest : List ℕ) (limit : Option ℕ) (n : ℕ) → 8 ≤ length rest
    → head_says (take 8 rest) limit ≡ Ok n → length rest < n + 8 → message_at rest limit ≡ Ended
message_cut rest limit n whole says cut =
    with_head rest limit whole ∙ ap (λ h. message_by h rest) says ∙ cut_by n rest cut

pub message_whole : (rest : List ℕ) (limit : Option ℕ) (n : ℕ) → 8 ≤ length rest
    → head_says (take 8 rest) limit ≡ Ok n → n + 8 ≤ length rest
    → message_at rest limit ≡ Whole (take (n + 8) rest)
message_whole rest limit n whole says all =
    with_head rest limit whole ∙ ap (λ h. message_by h rest) says ∙ whole_by n rest all

within_by : (n k : ℕ) (rest : List ℕ) → k ≤ n + 8 → k ≤ length rest → k ≤ taken_for rest (message_by (Ok n) rest)
within_by n k rest size all = grind (arith, length-take (n + 8) rest)

head_by : (k : ℕ) (head : Result ℕ HeadError) (rest : List ℕ) → k ≤ 8 → k ≤ length rest
    → k ≤ taken_for rest (message_by head rest)
head_by k (Err error) rest small all = small
head_by k (Ok n) rest small all = within_by n k rest (omega arith) all

-- at most a head is never past what is taken
pub head_within : (k : ℕ) (rest : List ℕ) (limit : Option ℕ) → k ≤ 8 → k ≤ length rest
    → k ≤ taken_for rest (message_at rest limit)
unfolding message_at
head_within k rest limit small all = grind (arith, head_by k (head_says (take 8 rest) limit) rest small all)

-- once the head was accepted, no more than it tells is
pub size_within : (k n : ℕ) (rest : List ℕ) (limit : Option ℕ) → 8 ≤ length rest
    → head_says (take 8 rest) limit ≡ Ok n → k ≤ n + 8 → k ≤ length rest
    → k ≤ taken_for rest (message_at rest limit)
size_within k n rest limit whole says size all =
    let P : Message → Type 0 = λ m. k ≤ taken_for rest m in
    subst P (sym (with_head rest limit whole ∙ ap (λ h. message_by h rest) says)) (within_by n k rest size all)

take_all : (rest : List ℕ) → rest ≡ take (length rest) rest
take_all rest = sym (take-length rest)

-- too few bytes were left
came_to_end : (before after : LinkState) (limit : Option ℕ) (taken : List ℕ)
    → message_at (left before) limit ≡ Ended → Takes before after (length (left before))
    → taken ≡ left before → Comes before after limit taken Ended
came_to_end before after limit taken front takes bytes =
    record { front = front; takes = takes; bytes = bytes ∙ take_all (left before) }

-- the reading of the head stopped
pub head_stopped : {before after : LinkState} (limit : Option ℕ) (taken : List ℕ) (stop : ReadStop) →
    (IsErrOf {T = Unit {0}} (Err stop) ReadStop.Ended → (length (left before) < 8)
    × Takes before after (length (left before)) × (taken ≡ left before)) →
    (IsErrOf {T = Unit {0}} (Err stop) ReadStop.Fault → (n : ℕ) × (n < 8) × Takes before after n
    × (taken ≡ take n (left before))) →
    TakesPart before after 8 →
    ReadsMessage before after limit taken (Err (message_stop_of stop))
head_stopped {before = before} {after = after} limit taken ReadStop.Ended ended fault part =
    let it = ended refl in came_to_end before after limit taken (message_short (left before) limit it.0) it.1 it.2
head_stopped {before = before} limit taken ReadStop.Fault ended fault part =
    let it = fault refl in (
      it.0,
      record {
        within = head_within it.0 (left before) limit
            (omega (arith, it.1)) it.2.within;
        takes = it.2;
      },
      it.3,
    )
head_stopped {before = before} limit taken ReadStop.OutOfMemory ended fault part =
    (part.0, record { within = head_within part.0 (left before) limit part.1 part.2.within; takes = part.2 })

-- the head is refused
pub head_refused : {before after : LinkState} (limit : Option ℕ) (taken : List ℕ)
    (error : HeadError) → head_says (take 8 (left before)) limit ≡ Err error →
    Takes before after 8 → taken ≡ take 8 (left before) → Comes before after limit taken (Refused error)
head_refused {before = before} limit taken error says takes bytes = record {
  front = message_refused (left before) limit error takes.within says;
  takes = takes;
  bytes = bytes;
}

-- the reading of the contents stopped
pub contents_stopped : {before between after : LinkState} (limit : Option ℕ) (size : ℕ)
    (taken : List ℕ) (stop : ReadStop) →
    head_says (take 8 (left before)) limit ≡ Ok size → Takes before between 8 →
    (IsErrOf {T = Unit {0}} (Err stop) ReadStop.Ended → (length (left between) < size)
    × Takes between after (length (left between))
    × (taken ≡ take 8 (left before) ++ left between)) →
    (IsErrOf {T = Unit {0}} (Err stop) ReadStop.Fault → (n : ℕ) × (n < size) × Takes between after n
    × (taken ≡ take 8 (left before) ++ take n (left between))) →
    TakesPart between after size →
    ReadsMessage before after limit taken (Err (message_stop_of stop))
contents_stopped {before = before} {between = between}
    {after = after} limit size taken ReadStop.Ended says head ended fault part =
    let it = ended refl in
    let all : 8 + length (left between) ≡ length (left before) = left_length head in
    let P : ℕ → Type 0 = λ n. Takes before after n in
    came_to_end before after limit taken
    (message_cut (left before) limit size head.within says (omega (arith, it.0)))
    (subst P all (takes_on head it.1))
    (it.2 ∙ ap (λ l. take 8 (left before) ++ l) (take_all (left between))
    ∙ bytes_from (length (left between)) head ∙ ap (λ n. take n (left before)) all
    ∙ sym (take_all (left before)))
contents_stopped {before = before} limit size taken ReadStop.Fault says head ended fault part =
    let it = fault refl in
    let takes = takes_on head it.2 in (
      8 + it.0,
      record {
        within = size_within (8 + it.0) size (left before) limit head.within says
            (omega (arith, it.1)) takes.within;
        takes = takes;
      },
      it.3 ∙ bytes_from it.0 head,
    )
contents_stopped {before = before} limit size taken ReadStop.OutOfMemory says head ended fault part =
    let takes = takes_on head part.2 in (
      8 + part.0,
      record {
        within = size_within (8 + part.0) size
            (left before) limit head.within says (omega (arith, part.1)) takes.within;
        takes = takes;
      },
    )

-- the contents were read
pub contents_read : {before between after : LinkState} (limit : Option ℕ) (size : ℕ) (taken : List ℕ) →
    head_says (take 8 (left before)) limit ≡ Ok size → Takes before between 8 →
    Takes between after size → taken ≡ take 8 (left before) ++ take size (left between)
    → Comes before after limit taken (Whole taken)
contents_read {before = before} {between = between} {after = after} limit size taken says head contents bytes =
    let takes : Takes before after (8 + size) = takes_on head contents in
    let all : 8 + size ≡ size + 8 = omega arith in
    let whole : taken ≡ take (8 + size) (left before) = bytes ∙ bytes_from size head in
    let long : length taken ≡ 8 + size = ap length whole ∙ length-take-le (8 + size) (left before) takes.within in
    let P : ℕ → Type 0 = λ n. Takes before after n in
    record {
      front = message_whole (left before) limit size head.within says (omega (arith, takes.within))
          ∙ ap (λ n. Whole (take n (left before))) (sym all) ∙ ap (λ m. Whole m) (sym whole);
      takes = subst P (sym long) takes;
      bytes = whole ∙ ap (λ n. take n (left before)) (sym long);
    }

-- over any link, bytes that begin with a refused head
pub refused_read : (limit : Option ℕ) (taken : List ℕ) (error : HeadError) → length taken ≡ 8
    → head_says taken limit ≡ Err error → message_at taken limit ≡ Refused error
refused_read limit taken error eight says =
    let front : take 8 taken ≡ taken = ap (λ n. take n taken) (sym eight) ∙ take-length taken in
    message_refused taken limit error (omega arith) (ap (λ b. head_says b limit) front ∙ says)

-- and bytes that are a head and as many more as it tells
pub whole_read : (limit : Option ℕ) (head taken : List ℕ) (size : ℕ) → length head ≡ 8
    → take (length head) taken ≡ head → length taken ≡ 8 + size → head_says head limit ≡ Ok size
    → message_at taken limit ≡ Whole taken
whole_read limit head taken size eight begins long says =
    let front : take 8 taken ≡ head = ap (λ n. take n taken) (sym eight) ∙ begins in
    let all : size + 8 ≡ length taken = omega arith in
    message_whole taken limit size (omega arith) (ap (λ b. head_says b limit) front ∙ says) (omega arith)
    ∙ ap (λ n. Whole (take n taken)) all ∙ ap (λ m. Whole m) (take-length taken)

-- what a refused head was refused for, and what an accepted one tells
pub stop_is : (h : Result ℕ HeadError) (stop : MessageStop) → head_stop_of h ≡ Err stop
    → (error : HeadError) × (h ≡ Err error) × (stop ≡ MessageStop.Refused error)
stop_is (Ok n) stop e = absurd (cc)
stop_is (Err error) stop e = (error, refl, cc)

pub len_is : (h : Result ℕ HeadError) (n : ℕ) → head_stop_of h ≡ Ok n → h ≡ Ok n
len_is (Ok m) n e = cc
len_is (Err error) n e = absurd (cc)

-- the head stopped the reading
pub stopped_by : {before after : LinkState} (limit : Option ℕ) (taken : List ℕ) (stop : MessageStop)
    → head_stop_of (head_says taken limit) ≡ Err stop →
    Takes before after 8 → taken ≡ take 8 (left before) → ReadsMessage before after limit taken (Err stop)
stopped_by {before = before} {after = after} limit taken stop is takes bytes =
    let it = stop_is (head_says taken limit) stop is in
    let P : MessageStop → Type 0 = λ s. ReadsMessage before after limit taken (Err s) in
    subst P (sym it.2) (head_refused limit taken it.0 (ap (λ b. head_says b limit) (sym bytes) ∙ it.1) takes bytes)

pub stopped_read : (limit : Option ℕ) (taken : List ℕ) (stop : MessageStop) → length taken ≡ 8
    → head_stop_of (head_says taken limit) ≡ Err stop → IsRead limit taken (Err stop)
stopped_read limit taken stop eight is =
    let it = stop_is (head_says taken limit) stop is in
    let P : MessageStop → Type 0 = λ s. IsRead limit taken (Err s) in
    subst P (sym it.2) (refused_read limit taken it.0 eight it.1)

-- ---- bytes after those that are taken

-- the first bytes of some, whatever follows
take_front : (n k : ℕ) (rest more : List ℕ) → k ≤ n → n ≤ length rest → take k (take n rest ++ more) ≡ take k rest
take_front n k rest more small all =
    take-append-le k (take n rest) more (omega (arith, length-take-le n rest all, small))
    ∙ take-take k n rest small

front_length : (n : ℕ) (rest more : List ℕ) → n ≤ length rest → n ≤ length (take n rest ++ more)
front_length n rest more all = omega (arith, length-append (take n rest) more, length-take-le n rest all)

later_by : (rest more : List ℕ) (limit : Option ℕ) (head : Result ℕ HeadError) → 8 ≤ length rest
    → head_says (take 8 rest) limit ≡ head → (message_by head rest ≡ Ended → ⊥) →
    message_at (take (taken_for rest (message_by head rest)) rest ++ more) limit ≡ message_by head rest
later_by rest more limit (Err error) whole says on =
    message_refused (take 8 rest ++ more) limit error (front_length 8 rest more whole)
    (ap (λ b. head_says b limit) (take_front 8 8 rest more (omega arith) whole) ∙ says)
later_by rest more limit (Ok n) whole says on =
    elim (cases_lt (length rest) (n + 8)) [
      | inl cut ↦ absurd (on (cut_by n rest cut))
      | inr all ↦
          let front : List ℕ = take (n + 8) rest ++ more in
          let P : Message → Type 0 = λ here. message_at (take (taken_for rest here) rest ++ more) limit ≡ here in
          let Q : ℕ → Type 0 = λ k. message_at (take k rest ++ more) limit ≡ Whole (take (n + 8) rest) in
          let long : n + 8 ≤ length front = front_length (n + 8) rest more all in
          subst P (sym (whole_by n rest all))
          (subst Q (sym (length-take-le (n + 8) rest all))
          (message_whole front limit n (omega (arith, long))
          (ap (λ b. head_says b limit) (take_front (n + 8) 8 rest more (omega arith) all) ∙ says) long
          ∙ ap (λ m. Whole m) (take_front (n + 8) (n + 8) rest more (omega arith) all)))
    ]

-- a message depends on no bytes after those that are taken for it
pub later_message : (rest more : List ℕ) (limit : Option ℕ) → (message_at rest limit ≡ Ended → ⊥) →
    message_at (take (taken_for rest (message_at rest limit)) rest ++ more) limit ≡ message_at rest limit
later_message rest more limit on =
    elim (cases_lt (length rest) 8) [
      | inl short ↦ absurd (on (message_short rest limit short))
      | inr whole ↦
          let P : Message → Type 0 = λ here. message_at (take (taken_for rest here) rest ++ more) limit ≡ here in
          let is : message_at rest limit ≡ message_by (head_says (take 8 rest) limit) rest =
          with_head rest limit whole in
          subst P (sym is)
          (later_by rest more limit (head_says (take 8 rest) limit) whole refl (λ ended. on (is ∙ ended)))
    ]
