-- What the diagnostics of a session show.
use Rattle.std.specs.Prelude.{◌≡◌, ℕ, List, [], ◌∷◌, map, take, Option, Some, true}
use Rattle.kmip_wire.specs.Bytes.{HasRanges}
use Rattle.kmip_wire.specs.Tree.{Tree}
use Rattle.kmip_wire.specs.Parses.{Parses}
use Rattle.kmip_diag.specs.Skeleton.{Skeleton, skeleton}
use Rattle.kmip_client.specs.Session.{Turn, turn_report}

-- the bytes that a turn takes
abbrev pub taken_by : Turn → List ℕ
taken_by turn = take turn.outcome.taken turn.rest

-- A turn's request and what it takes both parse, as these trees, whose numbers are in their ranges.
pub record Parse (turn : Turn) : Type 0 where
  pub message : List ℕ
  pub request : Tree
  pub response : Tree
  pub is_request : turn.request ≡ Some message
  pub request_parses : HasRanges request × Parses request 1 message
  pub response_parses : HasRanges response × Parses response 1 (taken_by turn)

abbrev pub AllParse : List Turn → Type 0
AllParse [] = Unit {0}
AllParse (turn ∷ turns) = Parse turn × AllParse turns

-- the skeletons of the requests and of the responses, in order
abbrev pub skeletons_of : (turns : List Turn) → AllParse turns → List (Skeleton × Skeleton)
skeletons_of [] all = []
skeletons_of (turn ∷ turns) all =
    (skeleton all.0.request, skeleton all.0.response) ∷ skeletons_of turns all.1

-- the diagnostics of the requests and of the responses, in order, where the buffer is on
abbrev pub texts_of : List Turn → List (Option (List ℕ) × Option (List ℕ))
texts_of turns = map (λ turn.
    ((turn_report true turn).request_text, (turn_report true turn).response_text)) turns
