-- One message, by the length in its head.
use Rattle.std.proofs.Common.{◌≡◌, OnOk, ℕ, ◌+◌, ◌-◌, ◌<◌, ◌≤◌, min, List, [], ◌++◌, length, take, refl, ◌∙◌, ap, sym, arith, subst, Option, Some, None, Result, Ok, Err, cond, nat_lt, true, false}
use Rattle.std.specs.Result.{result_ok}
use Rattle.std.proofs.lemmas.Bool.Decides.{nat_tests}
use Rattle.std.proofs.lemmas.List.{length-take, length-take-le, length-drop, take_min}
use Rattle.std.proofs.Math.Seq.{take-length}
use Rattle.kmip_wire.specs.Heads.{head_says}
use Rattle.kmip_wire.specs.declared.error.HeadError.{HeadError}
use Rattle.kmip_link.specs.State.{SourceState, source_left}
use Rattle.kmip_client.specs.Message.{taken_for}
use Rattle.kmip_client.proofs.Messages.{message_short, message_refused, message_cut, message_whole}
use Rattle.kmip_words.specs.Streams.{Gives, GivesPart}
use Rattle.kmip_words.proofs.Moves.{gives_on, bytes_on, left_after}
use Rattle.kmip_caller.specs.Wire.{taken_at, contents_of, IsOneAtMost}

short_front : (n : ℕ) (xs : List ℕ) → length xs ≤ n → take n xs ≡ xs
short_front n xs short =
    let least : min n (length xs) ≡ length xs = grind arith in
    sym (take_min n xs) ∙ ap (λ k. take k xs) least ∙ take-length xs

-- no head is there
taken_short : (rest : List ℕ) (limit : Option ℕ) → length rest < 8 → taken_at rest limit ≡ length rest
taken_short rest limit short = ap (λ m. taken_for rest m) (message_short rest limit short)

taken_refused : (rest : List ℕ) (limit : Option ℕ) (error : HeadError) → 8 ≤ length rest
    → head_says (take 8 rest) limit ≡ Err error → taken_at rest limit ≡ 8
taken_refused rest limit error whole says = ap (λ m. taken_for rest m) (message_refused rest limit error whole says)

taken_accepted : (rest : List ℕ) (limit : Option ℕ) (n : ℕ) → 8 ≤ length rest
    → head_says (take 8 rest) limit ≡ Ok n → taken_at rest limit ≡ min (8 + n) (length rest)
taken_accepted rest limit n whole says =
    elim (nat_lt (length rest) (n + 8)) as
    (λ b. nat_lt (length rest) (n + 8) ≡ b → taken_at rest limit ≡ min (8 + n) (length rest)) [
      | true ↦ λ e.
          let cut : length rest < n + 8 = grind (arith, nat_tests, e) in
          let least : length rest ≡ min (8 + n) (length rest) = grind (arith, cut) in
          ap (λ m. taken_for rest m) (message_cut rest limit n whole says cut) ∙ least
      | false ↦ λ e.
          let all : n + 8 ≤ length rest = grind (arith, nat_tests, e) in
          let least : n + 8 ≡ min (8 + n) (length rest) = grind (arith, all) in
          ap (λ m. taken_for rest m) (message_whole rest limit n whole says all) ∙ length-take-le (n + 8) rest all ∙ least
    ] refl

refused_or : (h : Result ℕ HeadError) → result_ok h ≡ None → (error : HeadError) × (h ≡ Err error)
refused_or (Ok n) none = absurd (cc)
refused_or (Err error) none = (error, refl)

accepted_by : (h : Result ℕ HeadError) (n : ℕ) → result_ok h ≡ Some n → h ≡ Ok n
accepted_by (Ok m) n some = cc
accepted_by (Err error) n some = absurd (cc)

-- what the first 8 bytes left, or all where there are fewer, say of the message
pub taken_alone : (rest front : List ℕ) (limit : Option ℕ) → front ≡ take 8 rest
    → contents_of front limit ≡ None → taken_at rest limit ≡ length front
taken_alone rest front limit is none =
    let size : length front ≡ min 8 (length rest) = ap length is ∙ length-take 8 rest in
    elim (nat_lt (length front) 8)
    as (λ b. nat_lt (length front) 8 ≡ b
    → cond b None (result_ok (head_says (take 8 front) limit)) ≡ None
    → taken_at rest limit ≡ length front) [
      | true ↦ λ e says.
          let few : length front < 8 = grind (arith, nat_tests, e) in
          let all : length rest ≡ length front = grind (arith, few, size) in
          taken_short rest limit (grind (arith, few, all)) ∙ all
      | false ↦ λ e says.
          let enough : 8 ≤ length front = grind (arith, nat_tests, e) in
          let eight : 8 ≡ length front = grind (arith, enough, size) in
          let long : 8 ≤ length rest = grind (arith, enough, size) in
          let same : take 8 front ≡ take 8 rest =
          ap (λ l. take 8 l) is ∙ short_front 8 (take 8 rest)
          (grind (arith, length-take 8 rest)) in
          let it = refused_or (head_says (take 8 front) limit) says in
          taken_refused rest limit it.0 long (ap (λ b. head_says b limit) (sym same) ∙ it.1) ∙ eight
    ] refl none

pub taken_with_contents : (rest front : List ℕ) (limit : Option ℕ) (n : ℕ) → front ≡ take 8 rest
    → contents_of front limit ≡ Some n →
    (length front ≡ 8) × (8 ≤ length rest) × (taken_at rest limit ≡ min (8 + n) (length rest))
taken_with_contents rest front limit n is some =
    let size : length front ≡ min 8 (length rest) = ap length is ∙ length-take 8 rest in
    elim (nat_lt (length front) 8)
    as (λ b. nat_lt (length front) 8 ≡ b
    → cond b None (result_ok (head_says (take 8 front) limit)) ≡ Some n → (length front ≡ 8)
    × (8 ≤ length rest) × (taken_at rest limit ≡ min (8 + n) (length rest))) [
      | true ↦ λ e says. absurd (cc)
      | false ↦ λ e says.
          let enough : 8 ≤ length front = grind (arith, nat_tests, e) in
          let eight : length front ≡ 8 = grind (arith, enough, size) in
          let long : 8 ≤ length rest = grind (arith, enough, size) in
          let same : take 8 front ≡ take 8 rest =
          ap (λ l. take 8 l) is ∙ short_front 8 (take 8 rest)
          (grind (arith, length-take 8 rest)) in (
            eight,
            long,
            taken_accepted rest limit n long
                (ap (λ b. head_says b limit) (sym same)
                ∙ accepted_by (head_says (take 8 front) limit) n says),
          )
    ] refl some

-- a head that ends it, over any source
pub one_head : (front : List ℕ) (limit : Option ℕ) → length front ≤ 8
    → contents_of front limit ≡ None → IsOneAtMost limit front
one_head front limit few none = taken_alone front front limit (sym (short_front 8 front few)) none

-- a head and no more contents than it says, over any source
pub one_message : (front whole : List ℕ) (limit : Option ℕ) (n : ℕ) → length front ≤ 8
    → contents_of front limit ≡ Some n →
    take (length front) whole ≡ front → length whole ≤ length front + n → IsOneAtMost limit whole
one_message front whole limit n few some begins small =
    let eight : length front ≡ 8 = (taken_with_contents front front limit n (sym (short_front 8 front few)) some).0 in
    let is : front ≡ take 8 whole = sym begins ∙ ap (λ k. take k whole) eight in
    let it = taken_with_contents whole front limit n is some in
    let least : min (8 + n) (length whole) ≡ length whole = grind (arith, small, eight) in
    it.2 ∙ least

-- the reading of the head ended it
pub head_taken : {a b : SourceState} (front : List ℕ) (limit : Option ℕ)
    → Gives a b (min 8 (length (source_left a))) → front ≡ take 8 (source_left a)
    → contents_of front limit ≡ None →
    Gives a b (taken_at (source_left a) limit) × (front ≡ take (taken_at (source_left a) limit) (source_left a))
head_taken {a = a} {b = b} front limit gives is none =
    let rest : List ℕ = source_left a in
    let size : length front ≡ min 8 (length rest) = ap length is ∙ length-take 8 rest in
    let taken : taken_at rest limit ≡ min 8 (length rest) = taken_alone rest front limit is none ∙ size in
    let P : ℕ → Type 0 = λ n. Gives a b n in
    (subst P (sym taken) gives, is ∙ sym (take_min 8 rest) ∙ ap (λ k. take k rest) (sym taken))

-- the head and its contents
pub message_taken : {a b c : SourceState} (front whole : List ℕ) (limit : Option ℕ) (n : ℕ)
    → Gives a b (min 8 (length (source_left a))) → front ≡ take 8 (source_left a) →
    contents_of front limit ≡ Some n → Gives b c (min n (length (source_left b)))
    → whole ≡ front ++ take n (source_left b) →
    Gives a c (taken_at (source_left a) limit) × (whole ≡ take (taken_at (source_left a) limit) (source_left a))
message_taken {a = a} {b = b} {c = c} front whole limit n head is some contents whole_is =
    let rest : List ℕ = source_left a in
    let it = taken_with_contents rest front limit n is some in
    let eight : min 8 (length rest) ≡ 8 = grind (arith, it.1) in
    let P : ℕ → Type 0 = λ k. Gives a b k in
    let first : Gives a b 8 = subst P eight head in
    let later : length (source_left b) ≡ length rest - 8 = ap length (left_after first) ∙ length-drop 8 rest in
    let sum : 8 + min n (length (source_left b)) ≡ min (8 + n) (length rest) = grind (arith, later, it.1) in
    let Q : ℕ → Type 0 = λ k. Gives a c k in
    let all : whole ≡ take (8 + n) rest = whole_is ∙ ap (λ l. l ++ take n (source_left b)) is ∙ bytes_on n [] first in (
      subst Q (sum ∙ sym it.2) (gives_on first contents),
      all ∙ sym (take_min (8 + n) rest)
          ∙ ap (λ k. take k rest) (sym it.2),
    )

-- the reading of the head stopped
pub head_part : {a b : SourceState} (limit : Option ℕ) → GivesPart a b 8
    → GivesPart a b (taken_at (source_left a) limit)
head_part {a = a} {b = b} limit part =
    let rest : List ℕ = source_left a in
    let P : ℕ → Type 0 = λ k. part.0 ≤ k in
    let front : List ℕ = take 8 rest in
    let size : length front ≡ min 8 (length rest) = length-take 8 rest in
    let within : part.0 ≤ min 8 (length rest) = grind (arith, part.1, part.2.within) in (
      part.0,
      elim (contents_of front limit) as (λ o. contents_of front limit ≡ o → part.0 ≤ taken_at rest limit) [
        | None ↦ λ e. subst P (sym (taken_alone rest front limit refl e ∙ size)) within
        | Some n ↦ λ e. (let it = taken_with_contents rest front limit n refl e in
            subst P (sym it.2) (grind (arith, part.1, part.2.within)))
      ] refl,
      part.2,
    )

-- the reading of the contents stopped
pub contents_part : {a b c : SourceState} (front : List ℕ) (limit : Option ℕ) (n : ℕ)
    → Gives a b (min 8 (length (source_left a))) → front ≡ take 8 (source_left a) →
    contents_of front limit ≡ Some n → GivesPart b c n → GivesPart a c (taken_at (source_left a) limit)
contents_part {a = a} {b = b} {c = c} front limit n head is some part =
    let rest : List ℕ = source_left a in
    let it = taken_with_contents rest front limit n is some in
    let eight : min 8 (length rest) ≡ 8 = grind (arith, it.1) in
    let P : ℕ → Type 0 = λ k. Gives a b k in
    let first : Gives a b 8 = subst P eight head in
    let both : Gives a c (8 + part.0) = gives_on first part.2 in
    let Q : ℕ → Type 0 = λ k. 8 + part.0 ≤ k in
    (8 + part.0, subst Q (sym it.2) (grind (arith, part.1, both.within)), both)

-- The same where the reading of the contents may have stopped.

pub one_message_or : {T E : Type 0} (result : Result T E) (front whole : List ℕ) (limit : Option ℕ)
    (n size all : ℕ) → length front ≤ 8 → contents_of front limit ≡ Some n →
    take (length front) whole ≡ front → size ≡ length front → all ≡ length whole
    → OnOk result (all ≤ size + n) → OnOk result (IsOneAtMost limit whole)
one_message_or (Ok done) front whole limit n size all few some begins size_is all_is small =
    one_message front whole limit n few some begins (omega (arith, size_is, all_is, small))
one_message_or (Err error) front whole limit n size all few some begins size_is all_is small = tt

pub message_taken_or : {T E : Type 0} (a b c : SourceState) (first second : Type 0)
    (result : Result T E) (front whole : List ℕ) (limit : Option ℕ) (n : ℕ)
    → contents_of front limit ≡ Some n → (first → second) →
    (first → Gives a b (min 8 (length (source_left a))) × (front ≡ take 8 (source_left a))) →
    OnOk result (second → Gives b c (min n (length (source_left b))) × (whole ≡ front ++ take n (source_left b))) →
    OnOk result (first → Gives a c (taken_at (source_left a) limit)
    × (whole ≡ take (taken_at (source_left a) limit) (source_left a)))
message_taken_or a b c first second (Ok done) front whole limit n some on head contents = λ t.
    let first = head t in
    let rest = contents (on t) in
    message_taken front whole limit n first.0 first.1 some rest.0 rest.1
message_taken_or a b c first second (Err error) front whole limit n some on head contents = tt
