-- A server whose maker's answers are those by their numbers: what it does, without the maker.
use Rattle.std.proofs.Common.{◌≡◌, ℕ, ℤ, ◌+◌, List, [], ◌∷◌, ◌++◌, length, refl, ◌∙◌, ap, sym, arith, append_assoc, length-append, Option, Some, None}
use Rattle.std.specs.List.{fold}
use Rattle.std.specs.Option.{option_map}
use Rattle.kmip_store.specs.Plain.{plain_answer, plain_answers}
use Rattle.kmip_store.specs.declared.maker.Asked.{Asked}
use Rattle.kmip_store.specs.declared.maker.Made.{Made}
use Rattle.kmip_store.specs.declared.object.Object.{Object}
use Rattle.std.specs.Option.{option_to_list}
use Rattle.kmip_server_core.specs.Served.{served, asks}
use Rattle.kmip_server.specs.Machine.{Run, first_for, rest_for, serve}
use Rattle.kmip_server.proofs.Frames.{serve_objects, serve_given, serve_asked}

pub append_none : {A : Type 0} (xs : List A) → xs ++ [] ≡ xs
append_none [] = refl
append_none (x ∷ xs) = ap (λ (l : List _). x ∷ l) (append_none xs)

-- the objects, and what the maker was asked
pub record Own : Type 0 where
  pub objects : List Object
  pub asked : List Asked

abbrev pub owned : List Object → List Asked → Own
owned objects asked = record { objects = objects; asked = asked }

-- the maker's answer to the next question
abbrev pub own_made : Own → Option Asked → Option Made
own_made own question = option_map (plain_answer (length own.asked + 1)) question

abbrev pub own_serve : ℤ → Own → List ℕ → Own
own_serve t own b = owned (served own.objects b (own_made own (asks own.objects b)) t).objects
    (own.asked ++ option_to_list (asks own.objects b))

abbrev pub own_of : Run → Own
own_of run = owned run.objects run.asked

-- what is asked while these messages are served
abbrev pub asked_by : ℤ → Run → List (List ℕ) → List Asked
asked_by t run [] = []
asked_by t run (b ∷ bs) = option_to_list (asks run.objects b) ++ asked_by t (serve t run b) bs

pub asked_is : (t : ℤ) (bs : List (List ℕ)) (run : Run) → (fold (serve t) run bs).asked ≡ run.asked ++ asked_by t run bs
asked_is t [] run = sym (append_none run.asked)
asked_is t (b ∷ bs) run =
    asked_is t bs (serve t run b)
    ∙ ap (λ (l : List Asked). l ++ asked_by t (serve t run b) bs) (serve_asked t run b)
    ∙ append_assoc run.asked (option_to_list (asks run.objects b)) (asked_by t (serve t run b) bs)

pub first_is : (question : Option Asked) (n : ℕ) (given : List Made) (rest : List Asked)
    → given ≡ plain_answers n (option_to_list question ++ rest) →
    first_for question given ≡ option_map (plain_answer (n + 1)) question
first_is None n given rest h = refl
first_is (Some question) n given rest h = ap (λ (l : List Made). first_for (Some question) l) h

rest_is : (question : Option Asked) (n : ℕ) (given : List Made) (rest : List Asked)
    → given ≡ plain_answers n (option_to_list question ++ rest) →
    rest_for question given ≡ plain_answers (n + length (option_to_list question)) rest
rest_is None n given rest h = h ∙ ap (λ (k : ℕ). plain_answers k rest) (omega arith)
rest_is (Some question) n given rest h = ap (λ (l : List Made). rest_for (Some question) l) h

-- one message more
record Serves (t : ℤ) (run : Run) (b : List ℕ) (rest : List Asked) : Type 0 where
  same : own_of (serve t run b) ≡ own_serve t (own_of run) b
  given : (serve t run b).given ≡ plain_answers (length (serve t run b).asked) rest

own_same : (objects objects' : List Object) (asked asked' : List Asked) → objects ≡ objects'
    → asked ≡ asked' → owned objects asked ≡ owned objects' asked'
own_same objects objects' asked asked' o a = λ i. owned (o i) (a i)

serves : (t : ℤ) (run : Run) (b : List ℕ) (rest : List Asked)
    → run.given ≡ plain_answers (length run.asked) (option_to_list (asks run.objects b) ++ rest)
    → Serves t run b rest
serves t run b rest h =
    let q : Option Asked = asks run.objects b in
    let n : ℕ = length run.asked in
    let made : first_for q run.given ≡ option_map (plain_answer (n + 1)) q = first_is q n run.given rest h in
    let more : length (run.asked ++ option_to_list q) ≡ n + length (option_to_list q) =
    length-append run.asked (option_to_list q) in
    record {
      same = own_same (serve t run b).objects _ (serve t run b).asked _
          (serve_objects t run b ∙ ap (λ (m : Option Made). (served run.objects b m t).objects)
          made) (serve_asked t run b);
      given = serve_given t run b ∙ rest_is q n run.given rest h
          ∙ ap (λ (k : ℕ). plain_answers k rest) (sym (ap length (serve_asked t run b) ∙ more));
    }

-- a run is what it would be without the maker, and its maker's answers to come are those to these questions
pub record IsOwn (t : ℤ) (start : Own) (bs : List (List ℕ)) (extra : List Asked) (run : Run) : Type 0 where
  pub same : own_of run ≡ fold (own_serve t) start bs
  pub given : run.given ≡ plain_answers (length run.asked) extra

pub runs_own : (t : ℤ) (bs : List (List ℕ)) (run : Run) (extra : List Asked)
    → run.given ≡ plain_answers (length run.asked) (asked_by t run bs ++ extra) →
    IsOwn t (own_of run) bs extra (fold (serve t) run bs)
runs_own t [] run extra h = record { same = refl; given = h }
runs_own t (b ∷ bs) run extra h =
    let n : ℕ = length run.asked in
    let here = serves t run b (asked_by t (serve t run b) bs ++ extra)
    (h ∙ ap (λ (l : List Asked). plain_answers n l)
    (append_assoc (option_to_list (asks run.objects b)) (asked_by t (serve t run b) bs) extra))
    in
    let later = runs_own t bs (serve t run b) extra here.given in
    record { same = later.same ∙ ap (λ (start : Own). fold (own_serve t) start bs) here.same; given = later.given }
