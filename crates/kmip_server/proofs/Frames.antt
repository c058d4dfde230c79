-- Responses are messages: so many of them at the front of some bytes are found in one way.
use Rattle.std.proofs.Common.{◌≡◌, ℕ, ℤ, ◌+◌, zero, suc, List, [], ◌∷◌, ◌++◌, length, take, refl, ◌∙◌, ap, sym, subst, arith, append_assoc, Option, Some, None}
use Rattle.std.specs.List.{fold}
use Rattle.std.proofs.Math.Seq.{take-append_seam}
use Rattle.std.proofs.lemmas.List.{append_cancel_left}
use Rattle.std.proofs.lemmas.List.Sums.{fold-append}
use Rattle.kmip_wire.specs.Head.{head_length}
use Rattle.kmip_server.specs.Split.{IsMessage}
use Rattle.kmip_response_write.specs.Settled.{response_bytes}
use Rattle.kmip_response.specs.declared.message.ResponseMessage.{ResponseMessage}
use Rattle.kmip_store.specs.declared.maker.Made.{Made}
use Rattle.std.specs.Option.{option_to_list}
use Rattle.kmip_server_core.specs.Served.{served, asks}
use Rattle.kmip_server.specs.Machine.{Run, first_for, rest_for, then_bytes, serve, fresh, run_of}
use Rattle.kmip_server.proofs.Splits.{head_same}

-- a message, and then what is of this kind
pub record Front (P : List ℕ → Type 0) (xs : List ℕ) : Type 0 where
  pub m : List ℕ
  pub rest : List ℕ
  pub message : IsMessage m
  pub is : xs ≡ m ++ rest
  pub later : P rest

-- n messages, and nothing more
abbrev pub Framed : ℕ → List ℕ → Type 0
Framed zero xs = xs ≡ []
Framed (suc n) xs = Front (Framed n) xs

append_none : (xs : List ℕ) → xs ++ [] ≡ xs
append_none [] = refl
append_none (x ∷ xs) = ap (λ l. x ∷ l) (append_none xs)

pub framed_on : (n : ℕ) (xs m : List ℕ) → Framed n xs → IsMessage m → Framed (suc n) (xs ++ m)
framed_on zero xs m none message = record {
  m = m;
  rest = [];
  message = message;
  is = ap (λ l. l ++ m) none ∙ sym (append_none m);
  later =
      refl;
}
framed_on (suc n) xs m front message = record {
  m = front.m;
  rest = front.rest ++ m;
  message = front.message;
  is = ap (λ l. l ++ m) front.is ∙ append_assoc front.m front.rest m;
  later = framed_on n front.rest m front.later message;
}

-- two messages at the front of the same bytes are one
pub same_front : (m m' p p' : List ℕ) → IsMessage m → IsMessage m' → m ++ p ≡ m' ++ p' → m ≡ m'
same_front m m' p p' is is' e =
    let heads : head_length m ≡ head_length m' =
    sym (head_same m p is.head) ∙ ap head_length e ∙ head_same m' p' is'.head in
    let lengths : length m ≡ length m' = omega (arith, is.size, is'.size, heads) in
    sym (take-append_seam m p) ∙ ap (λ l. take (length m) l) e ∙ ap (λ n. take n (m' ++ p')) lengths
    ∙ take-append_seam m' p'

pub same_frames : (n : ℕ) (xs ys p q : List ℕ) → Framed n xs → Framed n ys → xs ++ p ≡ ys ++ q → xs ≡ ys
same_frames zero xs ys p q f g e = f ∙ sym g
same_frames (suc n) xs ys p q f g e =
    let e' : f.m ++ (f.rest ++ p) ≡ g.m ++ (g.rest ++ q) =
    sym (append_assoc f.m f.rest p) ∙ ap (λ l. l ++ p) (sym f.is) ∙ e ∙ ap (λ l. l ++ q) g.is
    ∙ append_assoc g.m g.rest q in
    let first : f.m ≡ g.m = same_front f.m g.m (f.rest ++ p) (g.rest ++ q) f.message g.message e' in
    let rests : f.rest ++ p ≡ g.rest ++ q =
    append_cancel_left g.m (f.rest ++ p) (g.rest ++ q)
    (ap (λ l. l ++ (f.rest ++ p)) (sym first) ∙ e') in
    let rest : f.rest ≡ g.rest = same_frames n f.rest g.rest p q f.later g.later rests in
    f.is ∙ ap (λ l. l ++ f.rest) first ∙ ap (λ l. g.m ++ l) rest ∙ sym g.is

-- ---- serving

-- what is promised of the writer of responses
abbrev pub AreMessages : Type 0
AreMessages = (m : ResponseMessage) (b : List ℕ) → response_bytes m ≡ Some b → IsMessage b

-- the response to a message where the server stands so
abbrev pub response_to : ℤ → Run → List ℕ → Option (List ℕ)
response_to t run b = response_bytes (served run.objects b (first_for (asks run.objects b) run.given) t).message

pub serve_ever : (t : ℤ) (run : Run) (b : List ℕ) → (serve t run b).ever ≡ then_bytes run.ever (response_to t run b)
unfolding serve
serve_ever t run b = refl

pub serve_objects : (t : ℤ) (run : Run) (b : List ℕ)
    → (serve t run b).objects ≡ (served run.objects b (first_for (asks run.objects b) run.given)
    t).objects
unfolding serve
serve_objects t run b = refl

pub serve_given : (t : ℤ) (run : Run) (b : List ℕ) → (serve t run b).given ≡ rest_for (asks run.objects b) run.given
unfolding serve
serve_given t run b = refl

pub serve_asked : (t : ℤ) (run : Run) (b : List ℕ)
    → (serve t run b).asked ≡ run.asked ++ option_to_list (asks run.objects b)
unfolding serve
serve_asked t run b = refl

-- both were there
pub record Both (ever bytes : Option (List ℕ)) (all : List ℕ) : Type 0 where
  pub first : List ℕ
  pub second : List ℕ
  pub ever_is : ever ≡ Some first
  pub bytes_is : bytes ≡ Some second
  pub all_is : all ≡ first ++ second

pub both_of : (ever bytes : Option (List ℕ)) (all : List ℕ) → then_bytes ever bytes ≡ Some all → Both ever bytes all
both_of (Some e) (Some b) all h = record {
  first = e;
  second = b;
  ever_is = refl;
  bytes_is = refl;
  all_is = let k : e ++ b ≡ all = cc in
      sym k;
}
both_of (Some e) None all h = absurd (cc)
both_of None (Some b) all h = absurd (cc)
both_of None None all h = absurd (cc)

-- the responses so far are as many messages as there were requests
serve_framed : AreMessages → (t : ℤ) (ws : List (List ℕ)) (run : Run) (n : ℕ)
    → ((e : List ℕ) → run.ever ≡ Some e → Framed n e) → (e : List ℕ)
    → (fold (serve t) run ws).ever ≡ Some e → Framed (n + length ws) e
serve_framed law t [] run n so_far e h = let z : n + 0 ≡ n = omega arith in rw z (so_far e h)
serve_framed law t (w ∷ ws) run n so_far e h =
    let on : (x : List ℕ) → (serve t run w).ever ≡ Some x → Framed (suc n) x =
    λ x is.
    let both = both_of run.ever (response_to t run w) x (sym (serve_ever t run w) ∙ is) in
    rw both.all_is (framed_on n both.first both.second (so_far both.first both.ever_is)
    (law (served run.objects w (first_for (asks run.objects w) run.given)
    t).message both.second both.bytes_is)) in
    let z : n + length (w ∷ ws) ≡ suc n + length ws = omega arith in
    rw z (serve_framed law t ws (serve t run w) (suc n) on e h)

pub run_framed : AreMessages → (t : ℤ) (given : List Made) (ws : List (List ℕ)) (e : List ℕ)
    → (run_of t given ws).ever ≡ Some e → Framed (length ws) e
unfolding run_of
run_framed law t given ws e h =
    let z : 0 + length ws ≡ length ws = omega arith in
    subst (λ n. Framed n e) z (serve_framed law t ws (fresh given) 0 (λ x is. let k : [] ≡ x = cc in sym k) e h)

pub run_on : (t : ℤ) (given : List Made) (ws : List (List ℕ)) (b : List ℕ)
    → run_of t given (ws ++ b ∷ []) ≡ serve t (run_of t given ws) b
unfolding run_of
run_on t given ws b = fold-append (serve t) (fresh given) ws (b ∷ [])

-- what stands before a message that was served, where the bytes to read before it are n responses
pub record Back (t : ℤ) (run : Run) (b ever more : List ℕ) : Type 0 where
  pub ever_is : run.ever ≡ Some ever
  pub response : response_to t run b ≡ Some more

pub back_from : AreMessages → (t : ℤ) (given : List Made) (ws : List (List ℕ))
    (b ever more : List ℕ) → Framed (length ws) ever →
    (serve t (run_of t given ws) b).ever ≡ Some (ever ++ more) → Back t (run_of t given ws) b ever more
back_from law t given ws b ever more framed h =
    let run = run_of t given ws in
    let both = both_of run.ever (response_to t run b) (ever ++ more) (sym (serve_ever t run b) ∙ h) in
    let same : ever ≡ both.first = same_frames (length ws) ever both.first more both.second framed
    (run_framed law t given ws both.first both.ever_is) both.all_is in
    let seconds : more ≡ both.second =
    append_cancel_left ever more both.second
    (both.all_is ∙ ap (λ l. l ++ both.second) (sym same)) in
    record { ever_is = both.ever_is ∙ ap Some (sym same); response = both.bytes_is ∙ ap Some (sym seconds) }
