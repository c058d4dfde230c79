-- What a server answered goes on with what it served before.
use Rattle.std.proofs.Common.{◌≡◌, ℕ, ℤ, ◌+◌, ◌-◌, ◌<◌, List, [], ◌∷◌, ◌++◌, length, take, refl, ◌∙◌, ap, sym, subst, arith, append_assoc, Bool, true, false, Option, Some, None, Result, Ok, Err, IsTrue}
use Rattle.std.specs.List.{fold}
use Rattle.std.proofs.Math.Seq.{take-append_seam}
use Rattle.std.proofs.lemmas.List.{length-append, length-take-le}
use Rattle.std.proofs.lemmas.List.Sums.{fold-append}
use Rattle.kmip_response_write.specs.Settled.{response_bytes, IsHeld as IsHeldResponse}
use Rattle.kmip_wire.specs.declared.error.WireError.{WireError}
use Rattle.kmip_wire.specs.declared.error.WireError.TheVariants.{NoForm}
use Rattle.kmip_store.specs.declared.object.Object.{Object}
use Rattle.kmip_store.specs.declared.maker.Made.{Made}
use Rattle.kmip_store.specs.declared.maker.Asked.{Asked}
use Rattle.kmip_store.specs.Makers.{MakerState, MakerGrew}
use Rattle.std.specs.Option.{option_to_list}
use Rattle.kmip_server_core.specs.Answering.{answered, no_form, no_memory}
use Rattle.kmip_store.specs.Answers.{answers_question}
use Rattle.kmip_server_core.specs.Served.{served, asks}
use Rattle.kmip_server.specs.Split.{Split, is_message, took, nothing_sent, messages_in, CutsMessage}
use Rattle.kmip_server.specs.Machine.{Run, first_for, rest_for, then_bytes, serve, fresh, run_of}
use Rattle.kmip_server.specs.Serving.{IsHeldTo, AreResponsesHeld}
use Rattle.kmip_server_core.specs.State.{ServerState, AnswersRequest}
use Rattle.kmip_server.specs.declared.link.Refusal.{Refusal}
use Rattle.kmip_link.specs.declared.link.LinkError.TheVariants.{Fault}
use Rattle.kmip_server.specs.Link.{ServerLinkState, WritesTo, WriteEffect, kept_in, is_memory, Accepted, IsServed, HasServed, IsCut, Holds}
use Rattle.kmip_server.proofs.Frames.{run_on, serve_ever, serve_asked, serve_given}
use Rattle.kmip_server.proofs.Helds.{held_on}

-- how many bytes a write took
pub count_is : (begun bytes message : List ℕ) (whole : Bool)
    (t : CutsMessage begun bytes message whole) → length message - length begun ≡ t.n
count_is begun bytes message whole t =
    let l : length message ≡ length begun + length (take t.n bytes) =
    ap length t.is ∙ length-append begun (take t.n bytes) in
    let k : length (take t.n bytes) ≡ t.n = length-take-le t.n bytes t.within in
    omega arith

-- what a write took
pub accepted_as : (ever ever' more sent sent' begun bytes message : List ℕ) (whole : Bool)
    (t : CutsMessage begun bytes message whole)
    → sent' ≡ sent ++ take (length message - length begun) bytes → ever' ≡ ever ++ more →
    Accepted bytes (length message - length begun) ever ever' sent sent'
accepted_as ever ever' more sent sent' begun bytes message whole t sent_is ever_is =
    let count : length message - length begun ≡ t.n = count_is begun bytes message whole t in
    record {
      within = omega (arith, count, t.within);
      some = λ any. let some = t.some any in omega (arith, count, some);
      sent_is = sent_is;
      more = more;
      ever_is = ever_is;
    }

-- what was sent, split, after a write
split_on : (sent begun bytes message : List ℕ) (whole : Bool)
    (t : CutsMessage begun bytes message whole) → begun ≡ (messages_in sent).begun →
    messages_in (sent ++ take t.n bytes)
    ≡ fold took (record { whole = (messages_in sent).whole; begun = begun }) (take t.n bytes)
unfolding messages_in
split_on sent begun bytes message whole t is =
    fold-append took nothing_sent sent (take t.n bytes)
    ∙ ap (λ (b : List ℕ). fold took
    (record { whole = (fold took nothing_sent sent).whole; begun = b }) (take t.n bytes))
    (sym is)

pub split_begun : (sent begun bytes message : List ℕ) (t : CutsMessage begun bytes message false)
    → begun ≡ (messages_in sent).begun →
    messages_in (sent ++ take t.n bytes) ≡ record { whole = (messages_in sent).whole; begun = message }
split_begun sent begun bytes message t is =
    split_on sent begun bytes message false t is ∙ t.split_is (messages_in sent).whole

pub split_whole : (sent begun bytes message : List ℕ) (t : CutsMessage begun bytes message true)
    → begun ≡ (messages_in sent).begun →
    messages_in (sent ++ take t.n bytes) ≡ record { whole = (messages_in sent).whole ++ message ∷ []; begun = [] }
split_whole sent begun bytes message t is =
    split_on sent begun bytes message true t is ∙ t.split_is (messages_in sent).whole

first_is : (q : Option Asked) (made : Option Made) (more : List Made)
    → answers_question q made ≡ true → first_for q (option_to_list made ++ more) ≡ made
first_is None None more h = refl
first_is None (Some a) more h = absurd (cc)
first_is (Some q) None more h = absurd (cc)
first_is (Some q) (Some a) more h = refl

rest_is : (q : Option Asked) (made : Option Made) (more : List Made)
    → answers_question q made ≡ true → rest_for q (option_to_list made ++ more) ≡ more
rest_is None None more h = refl
rest_is None (Some a) more h = absurd (cc)
rest_is (Some q) None more h = absurd (cc)
rest_is (Some q) (Some a) more h = refl

same_run : (o o' : List Object) (e e' : Option (List ℕ)) (a a' : List Asked) (g g' : List Made)
    → o ≡ o' → e ≡ e' → a ≡ a' → g ≡ g' →
    let x : Run = record { objects = o; ever = e; asked = a; given = g } in
    let y : Run = record { objects = o'; ever = e'; asked = a'; given = g' } in x ≡ y
same_run o o' e e' a a' g g' p q r s = rw (p, q, r, s) refl

-- a message more was served
pub served_on : (t : ℤ) (objects objects' : List Object) (maker maker' : MakerState)
    (ever sent begun bytes message response : List ℕ) (takes : CutsMessage begun bytes message true)
    (made : Option Made) →
    begun ≡ (messages_in sent).begun → IsServed t objects maker ever sent
    → answers_question (asks objects message) made ≡ true
    → MakerGrew maker maker' (asks objects message) made →
    response_bytes (served objects message made t).message ≡ Some response
    → objects' ≡ (served objects message made t).objects →
    IsServed t objects' maker' (ever ++ response) (sent ++ take takes.n bytes)
unfolding serve
served_on t objects objects' maker maker' ever sent begun bytes message response takes made is held kind took' formed objects_is more =
    let q : Option Asked = asks objects message in
    let w : List (List ℕ) = (messages_in sent).whole in
    let first : first_for q (option_to_list made ++ more) ≡ made = first_is q made more kind in
    let givens : maker'.given ++ more ≡ maker.given ++ (option_to_list made ++ more) =
    ap (λ l. l ++ more) took'.given ∙ append_assoc maker.given (option_to_list made) more in
    let before : Run = record {
      objects = objects;
      ever = Some ever;
      asked = maker.asked;
      given =
          option_to_list made ++ more;
    } in
    ap (λ (s : Split). run_of t (maker'.given ++ more) s.whole) (split_whole sent begun bytes message takes is)
    ∙ ap (λ l. run_of t l (w ++ message ∷ [])) givens
    ∙ run_on t (maker.given ++ (option_to_list made ++ more)) w message
    ∙ ap (λ (r : Run). serve t r message) (held (option_to_list made ++ more))
    ∙ same_run _ _ _ _ _ _ _ _
    (ap (λ m. (served objects message m t).objects) first ∙ sym objects_is)
    (ap (λ m. then_bytes (Some ever) (response_bytes (served objects message m t).message)) first
    ∙ ap (then_bytes (Some ever)) formed)
    (sym took'.asked)
    (rest_is q made more kind)

-- and its response is a message that Rust can hold
held_served : (t : ℤ) (objects : List Object) (maker maker' : MakerState)
    (ever sent begun bytes message : List ℕ) (takes : CutsMessage begun bytes message true)
    (made : Option Made) →
    begun ≡ (messages_in sent).begun → HasServed t objects maker ever sent
    → answers_question (asks objects message) made ≡ true
    → MakerGrew maker maker' (asks objects message) made →
    IsHeldResponse (served objects message made t).message → (more : List Made)
    → AreResponsesHeld t (fresh (maker'.given ++ more))
    (messages_in (sent ++ take takes.n bytes)).whole
held_served t objects maker maker' ever sent begun bytes message takes made is serves kind took' holds more =
    let q : Option Asked = asks objects message in
    let w : List (List ℕ) = (messages_in sent).whole in
    let later : List Made = option_to_list made ++ more in
    let before : Run = record { objects = objects; ever = Some ever; asked = maker.asked; given = later } in
    let first : first_for q later ≡ made = first_is q made more kind in
    let givens : maker'.given ++ more ≡ maker.given ++ later =
    ap (λ l. l ++ more) took'.given ∙ append_assoc maker.given (option_to_list made) more in
    let one : IsHeldTo t before message =
    λ response formed. subst (λ m. IsHeldResponse (served objects message m t).message)
    (sym first) holds in
    let one' : IsHeldTo t (run_of t (maker.given ++ later) w) message =
    subst (λ (r : Run). IsHeldTo t r message) (sym (serves.run later)) one in
    let all : AreResponsesHeld t (fresh (maker.given ++ later)) (w ++ message ∷ []) =
    held_on t (maker.given ++ later) w message (serves.held later) one' in
    subst (λ l. AreResponsesHeld t (fresh l) (messages_in (sent ++ take takes.n bytes)).whole) (sym givens)
    (subst (λ (s : Split). AreResponsesHeld t (fresh (maker.given ++ later)) s.whole)
    (sym (split_whole sent begun bytes message takes is)) all)

pub serves_on : (t : ℤ) (objects objects' : List Object) (maker maker' : MakerState)
    (ever sent begun bytes message response : List ℕ) (takes : CutsMessage begun bytes message true)
    (made : Option Made) →
    begun ≡ (messages_in sent).begun → HasServed t objects maker ever sent
    → answers_question (asks objects message) made ≡ true
    → MakerGrew maker maker' (asks objects message) made →
    response_bytes (served objects message made t).message ≡ Some response
    → IsHeldResponse (served objects message made t).message
    → objects' ≡ (served objects message made t).objects →
    HasServed t objects' maker' (ever ++ response) (sent ++ take takes.n bytes)
serves_on t objects objects' maker maker' ever sent begun bytes message response takes made is serves kind took' formed holds objects_is = record {
  run =
      served_on t objects objects' maker maker' ever sent begun bytes message response takes made is serves.run kind took' formed objects_is;
  held = held_served t objects maker maker' ever sent begun bytes message takes made is serves kind took' holds;
}

alone : (xs : List Made) → xs ++ [] ≡ xs
alone [] = refl
alone (x ∷ xs) = ap (λ l. x ∷ l) (alone xs)

-- a message came whose response has no wire form
pub cut_on : (t : ℤ) (objects objects' : List Object) (maker maker' : MakerState)
    (ever sent begun bytes message : List ℕ) (takes : CutsMessage begun bytes message true)
    (made : Option Made) →
    begun ≡ (messages_in sent).begun → HasServed t objects maker ever sent
    → answers_question (asks objects message) made ≡ true
    → MakerGrew maker maker' (asks objects message) made →
    response_bytes (served objects message made t).message ≡ None → objects' ≡ objects
    → IsCut t objects' maker' ever sent message
cut_on t objects objects' maker maker' ever sent begun bytes message takes made is serves kind took' none objects_is =
    let q : Option Asked = asks objects message in
    let w : List (List ℕ) = (messages_in sent).whole in
    let later : List Made = option_to_list made in
    let given : maker'.given ≡ maker.given ++ later = took'.given in
    let plus : later ++ [] ≡ later = alone later in
    let first : first_for q later ≡ made = ap (first_for q) (sym plus) ∙ first_is q made [] kind in
    let rest : rest_for q later ≡ [] = ap (rest_for q) (sym plus) ∙ rest_is q made [] kind in
    let run : run_of t maker'.given w ≡ record
    { objects = objects; ever = Some ever; asked = maker.asked; given = later } =
    ap (λ l. run_of t l w) given ∙ serves.run later in
    let ends = takes.ends refl in
    let size : length message ≡ length begun + length (take takes.n bytes) =
    ap length takes.is ∙ length-append begun (take takes.n bytes) in
    let some : length (take takes.n bytes) ≡ takes.n = length-take-le takes.n bytes takes.within in
    let front : take (length begun) message ≡ begun =
    ap (take (length begun)) takes.is ∙ take-append_seam begun (take takes.n bytes) in
    record {
      objects_are = ap (λ (r : Run). r.objects) run ∙ sym objects_is;
      ever_is = ap (λ (r : Run). r.ever) run;
      held = subst (λ l. AreResponsesHeld t (fresh l) w) (sym given) (serves.held later);
      none = ap (λ (r : Run). (serve t r message).ever) run ∙ serve_ever t _ message
          ∙ ap (λ m. then_bytes (Some ever) (response_bytes (served objects message m t).message))
          first ∙ ap (then_bytes (Some ever)) none;
      asked = ap (λ (r : Run). (serve t r message).asked) run ∙ serve_asked t _ message ∙ sym took'.asked;
      given = ap (λ (r : Run). (serve t r message).given) run ∙ serve_given t _ message ∙ rest;
      message = ends.1;
      begins = subst (λ (b : List ℕ). take (length b) message ≡ b) is front;
      longer = subst (λ (b : List ℕ). length b < length message) is (omega (arith, size, some, ends.0));
    }

-- a part of a message more was sent
pub begun_on : (t : ℤ) (objects : List Object) (maker : MakerState)
    (ever sent begun bytes message : List ℕ) (takes : CutsMessage begun bytes message false) →
    begun ≡ (messages_in sent).begun → HasServed t objects maker ever sent
    → HasServed t objects maker ever (sent ++ take takes.n bytes)
begun_on t objects maker ever sent begun bytes message takes is serves =
    let same : (messages_in (sent ++ take takes.n bytes)).whole ≡ (messages_in sent).whole =
    ap (λ (s : Split). s.whole) (split_begun sent begun bytes message takes is) in
    record {
      run = λ more. ap (run_of t (maker.given ++ more)) same ∙ serves.run more;
      held = λ more. subst (AreResponsesHeld t (fresh (maker.given ++ more))) (sym same) (serves.held more);
    }

-- ---- as a write does it, where it counts the bytes by the message's length

-- where the message is not whole
pub not_whole : (sent sent' begun bytes message : List ℕ) (whole : Bool)
    → CutsMessage begun bytes message whole → whole ≡ false
    → sent' ≡ sent ++ take (length message - length begun) bytes →
    begun ≡ (messages_in sent).begun → messages_in sent' ≡ record { whole = (messages_in sent).whole; begun = message }
not_whole sent sent' begun bytes message false takes not sent_is is =
    ap messages_in (sent_is ∙ ap (λ n. sent ++ take n bytes)
    (count_is begun bytes message false takes)) ∙ split_begun sent begun bytes message takes is
not_whole sent sent' begun bytes message true takes not sent_is is = absurd (let e : true ≡ false = not in cc)

pub held_not_whole : {M : Type 0} (state : M → MakerState) (server : ServerState M)
    (ever sent sent' begun bytes message : List ℕ) (whole : Bool)
    → CutsMessage begun bytes message whole → whole ≡ false →
    sent' ≡ sent ++ take (length message - length begun) bytes → Holds state server ever sent begun
    → Holds state server ever sent' message
held_not_whole state server ever sent sent' begun bytes message false takes not sent_is held =
    let s = not_whole sent sent' begun bytes message false takes not sent_is held.begun_is in
    let sents : sent' ≡ sent ++ take takes.n bytes =
    sent_is ∙ ap (λ n. sent ++ take n bytes) (count_is begun bytes message false takes) in
    record {
      begun_is = ap (λ (x : Split). x.begun) (sym s);
      serves = rw sents (begun_on server.time server.objects
          (state server.maker) ever sent begun bytes message takes held.begun_is held.serves);
    }
held_not_whole state server ever sent sent' begun bytes message true takes not sent_is held =
    absurd (let e : true ≡ false = not in cc)

-- where it is whole
pub is_whole : (sent sent' begun bytes message : List ℕ) (whole : Bool)
    → CutsMessage begun bytes message whole → whole ≡ true
    → sent' ≡ sent ++ take (length message - length begun) bytes →
    begun ≡ (messages_in sent).begun → messages_in sent'
    ≡ record { whole = (messages_in sent).whole ++ message ∷ []; begun = [] }
is_whole sent sent' begun bytes message true takes not sent_is is =
    ap messages_in (sent_is ∙ ap (λ n. sent ++ take n bytes)
    (count_is begun bytes message true takes)) ∙ split_whole sent begun bytes message takes is
is_whole sent sent' begun bytes message false takes not sent_is is = absurd (let e : false ≡ true = not in cc)

-- the answer that a server gave
pub record Given' {M : Type 0} (state : M → MakerState) (before after : ServerState M)
    (b response : List ℕ) : Type 0 where
  pub made : Option Made
  pub fits : answers_question (asks before.objects b) made ≡ true
  pub grew : MakerGrew (state before.maker) (state after.maker) (asks before.objects b) made
  pub formed : response_bytes (served before.objects b made before.time).message ≡ Some response
  pub holds : IsHeldResponse (served before.objects b made before.time).message
  pub objects : after.objects ≡ (served before.objects b made before.time).objects

pub given_of : {M : Type 0} {state : M → MakerState} {before after : ServerState M} {b : List ℕ}
    {result : Result (List ℕ) WireError} (response : List ℕ) → IsTrue (state before.maker).tells
    → AnswersRequest state before after b result → result ≡ Ok response →
    Given' state before after b response
given_of response tells (answered made bytes given holds formed is objects) e =
    let same : bytes ≡ response = cc in
    record {
      made = made;
      fits = given.fits;
      grew = given.grew tells;
      formed =
          formed ∙ ap Some same;
      holds = holds;
      objects = objects;
    }
given_of response tells (no_form made given none is objects) e = absurd (cc)
given_of response tells (no_memory is objects) e = absurd (cc)

pub held_whole : {M : Type 0} (state : M → MakerState) (server server' : ServerState M)
    (ever ever' sent sent' begun bytes message response : List ℕ) (whole : Bool)
    → CutsMessage begun bytes message whole → whole ≡ true →
    sent' ≡ sent ++ take (length message - length begun) bytes → ever' ≡ ever ++ response
    → server'.time ≡ server.time → Given' state server server' message response →
    Holds state server ever sent begun → Holds state server' ever' sent' []
held_whole state server server' ever ever' sent sent' begun bytes message response true takes not sent_is ever_is time given held =
    let s = is_whole sent sent' begun bytes message true takes not sent_is held.begun_is in
    let sents : sent' ≡ sent ++ take takes.n bytes =
    sent_is ∙ ap (λ n. sent ++ take n bytes) (count_is begun bytes message true takes) in
    record {
      begun_is = ap (λ (x : Split). x.begun) (sym s);
      serves = rw (time, ever_is, sents)
          (serves_on server.time server.objects server'.objects (state server.maker)
          (state server'.maker)
          ever sent begun bytes message response takes given.made held.begun_is held.serves given.fits given.grew given.formed given.holds given.objects);
    }
held_whole state server server' ever ever' sent sent' begun bytes message response false takes not sent_is ever_is time given held = absurd (let e : false ≡ true = not in cc)

-- the answer that a server gave to a message whose response has no wire form
pub record Formless {M : Type 0} (state : M → MakerState) (before after : ServerState M) (b : List ℕ) : Type 0 where
  pub made : Option Made
  pub fits : answers_question (asks before.objects b) made ≡ true
  pub grew : MakerGrew (state before.maker) (state after.maker) (asks before.objects b) made
  pub none : response_bytes (served before.objects b made before.time).message ≡ None
  pub objects : after.objects ≡ before.objects

pub formless_of : {M : Type 0} {state : M → MakerState} {before after : ServerState M} {b : List ℕ}
    {result : Result (List ℕ) WireError} → IsTrue (state before.maker).tells
    → AnswersRequest state before after b result → result ≡ Err NoForm →
    Formless state before after b
formless_of tells (answered made bytes given holds formed is objects) e = absurd (cc)
formless_of tells (no_form made given none is objects) e =
    record {
      made = made;
      fits = given.fits;
      grew = given.grew tells;
      none = none;
      objects =
          objects;
    }
formless_of tells (no_memory is objects) e = absurd (cc)

pub cut_whole : {M : Type 0} (state : M → MakerState) (server server' : ServerState M)
    (ever sent begun bytes message : List ℕ) (whole : Bool) → CutsMessage begun bytes message whole
    → whole ≡ true →
    server'.time ≡ server.time → Formless state server server' message
    → Holds state server ever sent begun
    → IsCut server'.time server'.objects (state server'.maker) ever sent message
cut_whole state server server' ever sent begun bytes message true takes not time none held =
    rw time (cut_on server.time server.objects server'.objects (state server.maker)
    (state server'.maker)
    ever sent begun bytes message takes none.made held.begun_is held.serves none.fits none.grew none.none none.objects)
cut_whole state server server' ever sent begun bytes message false takes not time none held =
    absurd (let e : false ≡ true = not in cc)

-- ---- the rules of a write

pub did_not_whole : {M : Type 0} (state : M → MakerState) (server : ServerState M)
    (ever sent sent' begun bytes message : List ℕ) (whole : Bool) (n : ℕ)
    → CutsMessage begun bytes message whole → whole ≡ false → n ≡ length message - length begun →
    sent' ≡ sent ++ take (length message - length begun) bytes → begun ≡ (messages_in sent).begun
    → WriteEffect state server server ever ever sent sent' bytes (Ok n)
did_not_whole state server ever sent sent' begun bytes message whole n takes not count sent_is is =
    WriteEffect.goes_on n refl (count ∙ count_is begun bytes message whole takes ∙ takes.all not)
    (ap (λ (s : Split). s.whole)
    (not_whole sent sent' begun bytes message whole takes not sent_is is)) refl refl

pub did_whole : {M : Type 0} (state : M → MakerState) (server server' : ServerState M)
    (ever ever' sent sent' begun bytes message response : List ℕ) (whole : Bool) (n : ℕ)
    → CutsMessage begun bytes message whole → whole ≡ true →
    sent' ≡ sent ++ take (length message - length begun) bytes → begun ≡ (messages_in sent).begun
    → AnswersRequest state server server' message (Ok response) → ever' ≡ ever ++ response →
    WriteEffect state server server' ever ever' sent sent' bytes (Ok n)
did_whole state server server' ever ever' sent sent' begun bytes message response whole n takes so sent_is is answers ever_is =
    WriteEffect.ends n message response refl
    (is_whole sent sent' begun bytes message whole takes so sent_is is) answers ever_is

pub did_formless : {M : Type 0} (state : M → MakerState) (server server' : ServerState M)
    (ever ever' sent sent' begun bytes message : List ℕ) (whole : Bool) (refusal : Refusal)
    → CutsMessage begun bytes message whole → whole ≡ true →
    begun ≡ (messages_in sent).begun → kept_in refusal ≡ message → is_memory refusal ≡ false
    → AnswersRequest state server server' message (Err NoForm) →
    WriteEffect state server server' ever ever' sent sent' bytes (Err refusal)
did_formless state server server' ever ever' sent sent' begun bytes message whole refusal takes so is kept kind answers =
    WriteEffect.formless takes.n refusal refl (ap is_message kept ∙ (takes.ends so).1)
    (kept ∙ takes.is ∙ ap (λ (b : List ℕ). b ++ take takes.n bytes) is)
    (subst (λ (m : List ℕ). AnswersRequest state server server' m (Err NoForm)) (sym kept) answers) kind

pub writes_ok : {M : Type 0} (state : M → MakerState) (before after : ServerLinkState M)
    (bytes : List ℕ) (n : ℕ) → before.faults ≡ 0 → after.starved ≡ before.starved
    → after.kept ≡ before.kept
    → WriteEffect state before.server after.server before.ever after.ever before.sent after.sent bytes (Ok n) →
    WritesTo state before after bytes (Ok n)
writes_ok state before after bytes n none fed kept
    (WriteEffect.goes_on m is all whole server ever) =
    WritesTo.goes_on m none fed (let e : n ≡ m = cc in ap Ok e) all whole server ever kept
writes_ok state before after bytes n none fed kept
    (WriteEffect.ends m message response is split_is answers ever) =
    WritesTo.ends m message response none fed
    (let e : n ≡ m = cc in ap Ok e) split_is answers ever kept
writes_ok state before after bytes n none fed kept
    (WriteEffect.formless m refusal is message keeps answers kind) = absurd (cc)
writes_ok state before after bytes n none fed kept (WriteEffect.no_memory is) = absurd (cc)

pub writes_formless : {M : Type 0} (state : M → MakerState) (before after : ServerLinkState M)
    (bytes : List ℕ) (refusal : Refusal) → before.faults ≡ 0 → after.starved ≡ before.starved
    → is_memory refusal ≡ false → after.kept ≡ kept_in refusal →
    WriteEffect state before.server after.server before.ever after.ever before.sent after.sent bytes
    (Err refusal) → WritesTo state before after bytes (Err Fault)
writes_formless state before after bytes refusal none fed kind kept_is
    (WriteEffect.goes_on m is all whole server ever) = absurd (cc)
writes_formless state before after bytes refusal none fed kind kept_is
    (WriteEffect.ends m message response is split_is answers ever) = absurd (cc)
writes_formless state before after bytes refusal none fed kind kept_is
    (WriteEffect.formless m refusal' is message kept answers kind') =
    let same : refusal' ≡ refusal = cc in
    let keeps : after.kept ≡ kept_in refusal' = kept_is ∙ ap kept_in (sym same) in
    WritesTo.formless m none fed refl (ap is_message keeps ∙ message) (keeps ∙ kept)
    (subst (λ (b : List ℕ). AnswersRequest state before.server after.server b (Err NoForm))
    (sym keeps) answers)
writes_formless state before after bytes refusal none fed kind kept_is (WriteEffect.no_memory is) =
    absurd (let same : refusal ≡ Refusal.OutOfMemory = cc in
    let e : true ≡ false = sym (ap is_memory same) ∙ kind in cc)
