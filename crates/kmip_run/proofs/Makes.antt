-- Exchanges that are made from a number, one after the other.
use Rattle.std.proofs.Common.{◌≡◌, ℕ, suc, ◌+◌, ◌-◌, ◌*◌, ◌%◌, ◌^◌, ◌≤◌, Bool, true, false, cond, nat_lt, List, [], ◌++◌, length, take, drop, refl, ◌∙◌, ap, sym, subst, arith, append_assoc, Option, Some, None, Result, Ok, Err, length-drop}
use Rattle.std.proofs.Math.Nat.{mod-add-mod, mul_comm}
use Rattle.std.proofs.lemmas.List.{length-take}
use Rattle.std.proofs.lemmas.Bool.Decides.{nat_tests}
use Rattle.kmip_wire.specs.Heads.{head_says}
use Rattle.kmip_wire.specs.declared.error.HeadError.{HeadError}
use Rattle.kmip_link.specs.Plan.{MemoryState}
use Rattle.kmip_enums.specs.declared.operation.Operation.{Operation}
use Rattle.kmip_client.specs.Client.{ClientState}
use Rattle.kmip_client.specs.Message.{Ended, Whole, message_at, message_by, taken_for}
use Rattle.kmip_client.specs.Outcome.{outcome_of}
use Rattle.kmip_words.specs.Exchange.{Settings, settings_of, request_asked, fails, Step, step, Answers}
use Rattle.kmip_words.specs.declared.ending.Ending.{Ending}
use Rattle.kmip_run.specs.Making.{next_of, made_of, Counts, no_counts, one_ok, one_error, then_made, counts_after, MakesCall, Makes}
use Rattle.kmip_words.specs.declared.call.Call.{Call}
use Rattle.kmip_words.specs.declared.call.Recorded.{Recorded}
use Rattle.kmip_run.specs.declared.status.Status.TheVariants.{Ended}
use Rattle.kmip_run.proofs.Runs.{append_none}

pub next_is : (x : ℕ) → (x * 6364136223846793005 % 2 ^ 64 + 1442695040888963407) % 2 ^ 64 ≡ next_of x
unfolding next_of
next_is x = mod-add-mod (x * 6364136223846793005) (2 ^ 64) 1442695040888963407
    ∙ ap (λ (n : ℕ). (n + 1442695040888963407) % 2 ^ 64) (mul_comm x 6364136223846793005)

-- no more is taken than is left
by_within : (head : Result ℕ HeadError) (rest : List ℕ) → 8 ≤ length rest
    → taken_for rest (message_by head rest) ≤ length rest
by_within (Err error) rest some = some
by_within (Ok n) rest some = elim (nat_lt (length rest) (n + 8)) as
    (λ b. taken_for rest (cond b Ended (Whole (take (n + 8) rest))) ≤ length rest) [
      | true ↦ omega arith
      | false ↦ rw (length-take (n + 8) rest) (omega arith)
    ]

message_within : (rest : List ℕ) (limit : Option ℕ) → taken_for rest (message_at rest limit) ≤ length rest
unfolding message_at
message_within rest limit =
    elim (nat_lt (length rest) 8)
    as (λ b. nat_lt (length rest) 8 ≡ b
    → taken_for rest (cond b Ended (message_by (head_says (take 8 rest) limit) rest))
    ≤ length rest) [
      | true ↦ λ e. omega arith
      | false ↦ λ e. by_within (head_says (take 8 rest) limit) rest (grind (arith, nat_tests))
    ] refl

outcome_within : (request : Option (List ℕ)) (operation : Operation) (limit : Option ℕ)
    (rest : List ℕ) → (outcome_of request operation limit rest).taken ≤ length rest
outcome_within None operation limit rest = omega arith
outcome_within (Some request) operation limit rest = message_within rest limit

step_within : (settings : Settings) (call : Call) (rest : List ℕ) → (step settings call rest).taken ≤ length rest
step_within settings call rest = outcome_within (request_asked call settings.credential).message
    (request_asked call settings.credential).operation settings.limit rest

-- a call was fed its response, and made
pub makes_call : (before fed_to after : ClientState MemoryState) {ending : Ending}
    {old new : List ℕ} (settings : Settings) (it : Recorded) (failed : Bool)
    (left_before left_after : ℕ) →
    failed ≡ fails ending →
    settings ≡ settings_of fed_to →
    fed_to.link ≡ record before.link { ever = before.link.ever ++ it.response } →
    drop fed_to.link.pos fed_to.link.ever ≡ drop before.link.pos before.link.ever ++ it.response →
    left_before ≡ length (drop fed_to.link.pos fed_to.link.ever)
    → left_after ≡ length (drop after.link.pos after.link.ever) →
    Answers (step (settings_of fed_to) it.call (drop fed_to.link.pos fed_to.link.ever)) fed_to after ending old new →
    MakesCall (step settings it.call (drop before.link.pos before.link.ever ++ it.response))
    it.response before.link after.link failed (left_before - left_after)
makes_call before fed_to after {ending = ending} {old = old}
    {new = new}
    settings it failed left_before left_after fails_is same link left before_is after_is answers =
    let rest : List ℕ = drop before.link.pos before.link.ever ++ it.response in
    let s : Step = step settings it.call rest in
    let did : Answers s fed_to after ending old new = rw (same, sym left) answers in
    let ended : length (drop after.link.pos after.link.ever) ≡ length rest - s.taken =
    ap length did.left ∙ ap (λ (l : List ℕ). length (drop s.taken l)) left
    ∙ length-drop s.taken rest in
    record {
      failed_is = fails_is ∙ did.failed_is;
      taken_is = omega (arith, before_is, after_is, ended, ap length left, step_within settings it.call rest);
      ever = did.ever ∙ ap (λ (m : MemoryState). m.ever) link;
      sent = did.sent ∙ ap (λ (m : MemoryState). m.sent ++ s.sent) link;
      pos = did.pos ∙ ap (λ (m : MemoryState). m.pos + s.taken) link;
      left = did.left ∙ ap (λ (l : List ℕ). drop s.taken l) left;
    }

-- what was made, and what is still to come
pub record SoMade (all : Counts) (before now : MemoryState) (ok errors taken : ℕ) (rest : Counts) : Type 0 where
  pub fed : List ℕ
  pub sent : List ℕ
  pub all_fed : all.fed ≡ fed ++ rest.fed
  pub all_sent : all.sent ≡ sent ++ rest.sent
  pub all_taken : all.taken ≡ taken + rest.taken
  pub all_ok : all.ok ≡ ok + rest.ok
  pub all_errors : all.errors ≡ errors + rest.errors
  pub ever : now.ever ≡ before.ever ++ fed
  pub sent_is : now.sent ≡ before.sent ++ sent
  pub pos : now.pos ≡ before.pos + taken

nothing_made : (all : Counts) (link : MemoryState) → SoMade all link link 0 0 0 all
nothing_made all link = record {
  fed = [];
  sent = [];
  all_fed = refl;
  all_sent = refl;
  all_taken = omega arith;
  all_ok =
      omega arith;
  all_errors = omega arith;
  ever = append_none link.ever;
  sent_is =
      append_none link.sent;
  pos = omega arith;
}

pub none_made : (settings : Settings) (count x : ℕ) (rest : List ℕ) (link : MemoryState)
    → SoMade (counts_after settings count x rest) link link 0 0 0
    (counts_after settings (count - 0) x rest)
none_made settings count x rest link =
    let same : count - 0 ≡ count = omega arith in
    rw same (nothing_made (counts_after settings count x rest) link)

-- one exchange more
one_made : {all : Counts} {before now after : MemoryState} {failed : Bool} (ok errors taken did : ℕ)
    (fed : List ℕ) (s : Step) (rest : Counts) →
    SoMade all before now ok errors taken (then_made fed s rest)
    → MakesCall s fed now after failed did
    → SoMade all before after (ok + one_ok failed) (errors + one_error failed)
    (taken + did) rest
one_made {before = before} {failed = failed} ok errors taken did fed s rest so_far call = record {
  fed = so_far.fed ++ fed;
  sent = so_far.sent ++ s.sent;
  all_fed = so_far.all_fed ∙ sym (append_assoc so_far.fed fed rest.fed);
  all_sent = so_far.all_sent ∙ sym (append_assoc so_far.sent s.sent rest.sent);
  all_taken = omega (arith, so_far.all_taken, call.taken_is);
  all_ok = omega (arith, so_far.all_ok, ap one_ok call.failed_is);
  all_errors = omega (arith, so_far.all_errors, ap one_error call.failed_is);
  ever = call.ever ∙ ap (λ (l : List ℕ). l ++ fed) so_far.ever ∙ append_assoc before.ever so_far.fed fed;
  sent_is = call.sent ∙ ap (λ (l : List ℕ). l ++ s.sent) so_far.sent_is ∙ append_assoc before.sent so_far.sent s.sent;
  pos = omega (arith, call.pos, so_far.pos, call.taken_is);
}

made_more : (settings : Settings) (count x : ℕ) (rest : List ℕ) →
    counts_after settings (suc count) x rest ≡
    then_made (made_of (next_of x)).response
    (step settings (made_of (next_of x)).call (rest ++ (made_of (next_of x)).response))
    (counts_after settings count (next_of x)
    (drop (step settings (made_of (next_of x)).call
    (rest ++ (made_of (next_of x)).response)).taken (rest ++ (made_of (next_of x)).response)))
unfolding counts_after
made_more settings count x rest = refl

made_no_more : (settings : Settings) (x : ℕ) (rest : List ℕ) → counts_after settings 0 x rest ≡ no_counts
unfolding counts_after
made_no_more settings x rest = refl

-- the next exchange
pub next_made : {all : Counts} {before now after : MemoryState} {failed : Bool}
    (settings : Settings) (it : Recorded) (left later x y ok errors taken did : ℕ) →
    left ≡ suc later → y ≡ next_of x → it ≡ made_of y →
    SoMade all before now ok errors taken (counts_after settings left x (drop now.pos now.ever)) →
    MakesCall (step settings it.call (drop now.pos now.ever ++ it.response)) it.response now after failed did →
    SoMade all before after (ok + one_ok failed) (errors + one_error failed) (taken + did)
    (counts_after settings later y (drop after.pos after.ever))
next_made {now = now} settings it left later x y ok errors taken did more y_is it_is so_far call =
    let here = rw (more, made_more settings later x (drop now.pos now.ever), sym y_is, sym it_is) at so_far in
    rw call.left (one_made ok errors taken did it.response
    (step settings it.call (drop now.pos now.ever ++ it.response)) _ here call)

-- an exchange under the same settings
pub under_same : {before after : MemoryState} {failed : Bool} {did : ℕ} (a b : Settings)
    (call : Call) (fed rest : List ℕ) → a ≡ b
    → MakesCall (step a call rest) fed before after failed did
    → MakesCall (step b call rest) fed before after failed did
under_same {before = before} {after = after} {failed = failed} {did = did} a b call fed rest same makes =
    subst (λ (s : Settings). MakesCall (step s call rest) fed before after failed did) same makes

-- no exchange is left
pub all_made : {all : Counts} {before now : MemoryState} (settings : Settings) (left x ok errors taken : ℕ) → left ≡ 0 →
    SoMade all before now ok errors taken (counts_after settings left x (drop now.pos now.ever))
    → Makes all before now ok errors taken
all_made {all = all} {before = before} {now = now} settings left x ok errors taken none so_far =
    let here : SoMade all before now ok errors taken no_counts =
    rw (none, made_no_more settings x (drop now.pos now.ever)) at so_far in
    record {
      ok_is = omega (arith, here.all_ok);
      errors_is = omega (arith, here.all_errors);
      taken_is = omega (arith, here.all_taken);
      ever = here.ever ∙ ap (λ (l : List ℕ). before.ever ++ l) (append_none here.fed ∙ sym here.all_fed);
      sent = here.sent_is ∙ ap (λ (l : List ℕ). before.sent ++ l) (append_none here.sent ∙ sym here.all_sent);
      pos = omega (arith, here.pos, here.all_taken);
    }

pub one_in_all : (failed : Bool) → one_ok failed + one_error failed ≡ 1
one_in_all true = refl
one_in_all false = refl
