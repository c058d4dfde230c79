-- What the diagnostics of sessions show, where the requests are valid and the messages parse.
use Rattle.std.proofs.Common.{◌≡◌, ℕ, ◌+◌, ◌-◌, Bool, true, false, cond, List, [], ◌∷◌, drop, map, refl, ◌∙◌, sym, ap, arith, Option, Some, None}
use Rattle.std.specs.Prelude.{IsSome, ◌↔◌}
use Rattle.std.specs.Option.{option_map, option_and_then}
use Rattle.std.proofs.lemmas.List.{get_or-drop}
use Rattle.kmip_wire.specs.Bytes.{AreBytes, HasRanges}
use Rattle.kmip_wire.specs.Tree.{Tree}
use Rattle.kmip_wire.specs.Parses.{IsLevel, Parses}
use Rattle.kmip_wire.specs.Reading.{item_of}
use Rattle.kmip_wire.proofs.Ranges.{bytes_take}
use Rattle.kmip_diag.specs.Skeleton.{Skeleton, skeleton}
use Rattle.kmip_types.specs.declared.auth.CredentialType.{CredentialType}
use Rattle.kmip_request.specs.Fits.{FitsRequest}
use Rattle.kmip_request.specs.Message.{request_bytes}
use Rattle.kmip_request.specs.declared.payload.RequestPayload.{RequestPayload}
use Rattle.kmip_client.specs.Client.{loses_connection}
use Rattle.kmip_client.specs.Outcome.{outcome}
use Rattle.kmip_client.specs.Session.{Turn, turn_of, session}
use Rattle.kmip_client.specs.Skeletons.{taken_by, Parse, AllParse, skeletons_of, texts_of}
use Rattle.kmip_shape.proofs.Parts.{some_same}
use Rattle.kmip_run.specs.Sent.{AreHeld}
use Rattle.kmip_run.specs.Skeletons.{AllAnswered, skeleton_in, skeletons_in}

-- the laws that it stands on
abbrev RequestsParse : Type 0
RequestsParse = (p : RequestPayload) (c : Option CredentialType) (b : List ℕ) → FitsRequest p c
    → request_bytes p c ≡ Some b → (t : Tree) × Parses t 1 b

abbrev RequestsRange : Type 0
RequestsRange = (p : RequestPayload) (c : Option CredentialType) (b : List ℕ) (t : Tree)
    → FitsRequest p c → request_bytes p c ≡ Some b → Parses t 1 b → HasRanges t

abbrev Computed : Type 0
Computed = (t : Tree) (level : ℕ) (b : List ℕ) → IsLevel level → (item_of (65 - level) b ≡ Some t) ↔ Parses t level b

abbrev Ranged : Type 0
Ranged = (t : Tree) (level : ℕ) (b : List ℕ) → AreBytes b → Parses t level b → HasRanges t

abbrev Tell : Type 0
Tell = (payloads others : List RequestPayload) (credential other : Option CredentialType)
    (limit most : Option ℕ) (rest bytes : List ℕ) →
    (all : AllParse (session payloads credential limit rest)) → (each : AllParse (session others other most bytes)) →
    (texts_of (session payloads credential limit rest) ≡ texts_of (session others other most bytes))
    ↔ (skeletons_of (session payloads credential limit rest) all
    ≡ skeletons_of (session others other most bytes) each)

bytes_drop : (n : ℕ) (b : List ℕ) → AreBytes b → AreBytes (drop n b)
bytes_drop n b h i = omega (arith, get_or-drop n b i 0, h (n + i))

first_level : IsLevel 1
first_level = (omega arith, omega arith)

skeleton_is : Computed → (t : Tree) (b : List ℕ) → Parses t 1 b → skeleton_in b ≡ Some (skeleton t)
skeleton_is computed t b p = ap (λ (o : Option Tree). option_map skeleton o) ((computed t 1 b first_level).1 p)

some_of : {A : Type 0} (o : Option A) → IsSome o → (x : A) × (o ≡ Some x)
some_of None h = absurd (cc)
some_of (Some x) h = (x, refl)

abbrev both : Skeleton × Skeleton → Option Skeleton × Option Skeleton
both s = (Some s.0, Some s.1)

-- the turns parse, and their skeletons are those of the trees
abbrev AreShown : List Turn → Type 0
AreShown turns = AllAnswered turns → (all : AllParse turns) × (skeletons_in turns ≡ map both (skeletons_of turns all))

none_shown : AreShown []
none_shown answered = (tt, refl)

shown_next : Computed → Ranged → (turn : Turn) (turns : List Turn)
    → ((b : List ℕ) → turn.request ≡ Some b → (t : Tree) × Parses t 1 b × HasRanges t)
    → AreBytes (taken_by turn) → AreShown turns → AreShown (turn ∷ turns)
shown_next computed ranged turn turns own bytes later answered =
    let message = some_of turn.request answered.0 in
    let request = own message.0 message.1 in
    let response : Tree = answered.1.0 in
    let rest = later answered.2 in
    let parse : Parse turn = record {
      message = message.0;
      request = request.0;
      response = response;
      is_request = message.1;
      request_parses = (request.2, request.1);
      response_parses = (ranged response 1 (taken_by turn) bytes answered.1.1, answered.1.1);
    } in
    let sent : option_and_then skeleton_in turn.request ≡ Some (skeleton request.0) =
    ap (λ (o : Option (List ℕ)). option_and_then skeleton_in o) message.1
    ∙ skeleton_is computed request.0 message.0 request.1 in
    let taken : skeleton_in (taken_by turn) ≡ Some (skeleton response) =
    skeleton_is computed response (taken_by turn) answered.1.1 in
    ((parse, rest.0), λ i. (sent i, taken i) ∷ rest.1 i)

either : (P : List Turn → Type 0) (lost : Bool) (turn : Turn) (later : List Turn) → P (turn ∷ [])
    → P (turn ∷ later) → P (cond lost (turn ∷ []) (turn ∷ later))
either P true turn later one more = one
either P false turn later one more = more

shown : RequestsParse → RequestsRange → Computed → Ranged
    → (payloads : List RequestPayload) (credential : Option CredentialType) (limit : Option ℕ)
    (rest : List ℕ) →
    AreHeld payloads credential → AreBytes rest → AreShown (session payloads credential limit rest)
unfolding session
shown parses ranges computed ranged [] credential limit rest held bytes = none_shown
shown parses ranges computed ranged (payload ∷ payloads) credential limit rest held bytes =
    let turn : Turn = turn_of payload credential limit rest in
    let n : ℕ = (outcome payload credential limit rest).taken in
    let later : List Turn = session payloads credential limit (drop n rest) in
    let own : (b : List ℕ) → request_bytes payload credential ≡ Some b → (t : Tree) × Parses t 1 b
    × HasRanges t = λ b is.
    let t = parses payload credential b held.0 is in (t.0, t.1, ranges payload credential b t.0 held.0 is t.1) in
    either AreShown (loses_connection turn.outcome.answer) turn later
    (shown_next computed ranged turn [] own (bytes_take n rest bytes) none_shown)
    (shown_next computed ranged turn later own (bytes_take n rest bytes)
    (shown parses ranges computed ranged payloads credential limit (drop n rest) held.1
    (bytes_drop n rest bytes)))

abbrev first_sent : List (Option Skeleton × Option Skeleton) → Option Skeleton
first_sent [] = None
first_sent (one ∷ others) = one.0

abbrev first_taken : List (Option Skeleton × Option Skeleton) → Option Skeleton
first_taken [] = None
first_taken (one ∷ others) = one.1

abbrev after_first : List (Option Skeleton × Option Skeleton) → List (Option Skeleton × Option Skeleton)
after_first [] = []
after_first (one ∷ others) = others

head_same : (x y : Skeleton × Skeleton) (xs ys : List (Skeleton × Skeleton))
    → map both (x ∷ xs) ≡ map both (y ∷ ys) → (x.0 ≡ y.0) × (x.1 ≡ y.1)
    × (map both xs ≡ map both ys)
head_same x y xs ys h = (some_same x.0 y.0 (ap first_sent h), some_same x.1 y.1 (ap first_taken h), ap after_first h)

both_injective : (xs ys : List (Skeleton × Skeleton)) → map both xs ≡ map both ys → xs ≡ ys
both_injective [] [] h = refl
both_injective [] (y ∷ ys) h = absurd (cc)
both_injective (x ∷ xs) [] h = absurd (cc)
both_injective (x ∷ xs) (y ∷ ys) h =
    let s = head_same x y xs ys h in
    let rest = both_injective xs ys s.2 in
    λ i. (s.0 i, s.1 i) ∷ rest i

pub sessions_tell : RequestsParse → RequestsRange → Computed → Ranged → Tell
    → (payloads others : List RequestPayload) (credential other : Option CredentialType)
    (limit most : Option ℕ) (rest bytes : List ℕ) →
    AreHeld payloads credential → AreHeld others other → AreBytes rest → AreBytes bytes →
    AllAnswered (session payloads credential limit rest) → AllAnswered (session others other most bytes) →
    (texts_of (session payloads credential limit rest) ≡ texts_of (session others other most bytes))
    ↔ (skeletons_in (session payloads credential limit rest)
    ≡ skeletons_in (session others other most bytes))
sessions_tell parses ranges computed ranged tell payloads others credential other limit most rest bytes held others_held are_bytes others_are answered others_answered =
    let one = shown parses ranges computed ranged payloads credential limit rest held are_bytes answered in
    let two = shown parses ranges computed ranged others other most bytes others_held others_are others_answered in
    let law = tell payloads others credential other limit most rest bytes one.0 two.0 in (
      λ h. one.1 ∙ ap (λ (l : List (Skeleton × Skeleton)). map both l) (law.0 h) ∙ sym two.1,
      λ h. law.1 (both_injective _ _ (sym one.1 ∙ h ∙ two.1)),
    )
