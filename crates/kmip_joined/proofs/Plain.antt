-- A link whose server has a plain maker: what stands before a call, whatever the maker's answers are in the end.
use Rattle.std.proofs.Common.{◌≡◌, ℕ, ℤ, List, [], ◌++◌, length, refl, ◌∙◌, ap, sym, Some}
use Rattle.std.specs.List.{fold}
use Rattle.kmip_link.specs.State.{left}
use Rattle.kmip_store.specs.Plain.{PlainMemory, plain_state, plain_answers}
use Rattle.kmip_store.specs.declared.maker.Asked.{Asked}
use Rattle.kmip_store.specs.declared.maker.Made.{Made}
use Rattle.kmip_store.specs.declared.object.Object.{Object}
use Rattle.kmip_store.proofs.Plains.{as_many}
use Rattle.kmip_server.specs.Split.{messages_in}
use Rattle.kmip_server.specs.Machine.{Run, fresh, run_of}
use Rattle.kmip_server.specs.Link.{ServerLinkState, server_link_state, IsOpen, LinkFacts}
use Rattle.kmip_server.specs.Joined.{Between}
use Rattle.kmip_server.specs.OneCall.{between}
use Rattle.kmip_joined.specs.World.{World, world_of}
use Rattle.kmip_joined.specs.Reports.{HasPlainAnswers}
use Rattle.kmip_joined.proofs.PlainServer.{Own, owned, own_of, own_serve, asked_by, asked_is, append_none, runs_own, IsOwn}

-- what the server did so far, by the messages alone
before_own : (link : ServerLinkState PlainMemory) → IsOpen plain_state link
    → LinkFacts plain_state link → HasPlainAnswers link →
    owned link.server.objects link.server.maker.asked
    ≡ fold (own_serve link.server.time) (owned [] []) (messages_in link.sent).whole
unfolding run_of
before_own link opened known plain =
    let t : ℤ = link.server.time in
    let ws : List (List ℕ) = (messages_in link.sent).whole in
    let given : List Made = link.server.maker.given ++ [] in
    let served : run_of t given ws ≡ record {
      objects = link.server.objects;
      ever = Some link.ever;
      asked =
          link.server.maker.asked;
      given = [];
    } =
    (known.serves opened.fed refl opened.sound).run [] in
    let all : asked_by t (fresh given) ws ++ [] ≡ link.server.maker.asked =
    append_none (asked_by t (fresh given) ws) ∙ sym (asked_is t ws (fresh given)) ∙ ap (λ (r : Run). r.asked) served in
    let plain_too : given ≡ plain_answers 0 (asked_by t (fresh given) ws ++ []) =
    append_none link.server.maker.given ∙ plain ∙ ap (λ (l : List Asked). plain_answers 0 l) (sym all) in
    ap own_of (sym served) ∙ (runs_own t ws (fresh given) [] plain_too).same

-- and by the maker's answers in the end, where these are those to all questions
after_own : (t : ℤ) (ws : List (List ℕ)) (given : List Made) (asked extra : List Asked)
    → given ≡ plain_answers 0 asked → asked ≡ (run_of t given ws).asked ++ extra →
    IsOwn t (owned [] []) ws extra (run_of t given ws)
unfolding run_of
after_own t ws given asked extra plain is =
    let all : asked ≡ asked_by t (fresh given) ws ++ extra =
    is ∙ ap (λ (l : List Asked). l ++ extra) (asked_is t ws (fresh given)) in
    runs_own t ws (fresh given) extra (plain ∙ ap (λ (l : List Asked). plain_answers 0 l) all)

abbrev pub world_with : List Object → ℕ → List ℕ → World
world_with objects answers rest = record { objects = objects; answers = answers; rest = rest }

-- what stands, as the program's definitions see it
abbrev pub world_at : Between → World
world_at now = world_with now.objects (length now.asked) now.rest

pub world_same : (objects objects' : List Object) (answers answers' : ℕ) (rest rest' : List ℕ)
    → objects ≡ objects' → answers ≡ answers' → rest ≡ rest' →
    world_with objects answers rest ≡ world_with objects' answers' rest'
world_same objects objects' answers answers' rest rest' o a r = λ i. world_with (o i) (a i) (r i)

-- before a call, after which the maker gave these answers
pub record Stands (link : ServerLinkState PlainMemory) (now : Between) (extra : List Asked) : Type 0 where
  pub world : world_of link ≡ world_at now
  pub given : now.given ≡ plain_answers (length now.asked) extra

pub stands : (link : ServerLinkState PlainMemory) (given : List Made) (asked extra : List Asked)
    → IsOpen plain_state link → LinkFacts plain_state link → HasPlainAnswers link →
    given ≡ plain_answers 0 asked → asked
    ≡ (between link.server.time given (server_link_state plain_state link)).asked ++ extra →
    Stands link (between link.server.time given (server_link_state plain_state link)) extra
stands link given asked extra opened known plain plain_after is =
    let own = after_own link.server.time (messages_in link.sent).whole given asked extra plain_after is in
    let same : owned link.server.objects link.server.maker.asked
    ≡ own_of (run_of link.server.time given (messages_in link.sent).whole) =
    before_own link opened known plain ∙ sym own.same in
    record {
      world = world_same _ _ _ _ (left (server_link_state plain_state link)) _ (ap (λ (o : Own). o.objects) same)
          (ap length plain ∙ as_many 0 link.server.maker.asked ∙ ap (λ (o : Own). length o.asked) same) refl;
      given = own.given;
    }
