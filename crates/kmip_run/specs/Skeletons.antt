-- What the diagnostics of a session show, with its requests and messages as bytes.
use Rattle.std.specs.Prelude.{ℕ, List, [], ◌∷◌, map, Option, IsSome}
use Rattle.std.specs.Option.{option_map, option_and_then}
use Rattle.kmip_wire.specs.Tree.{Tree}
use Rattle.kmip_wire.specs.Parses.{Parses}
use Rattle.kmip_wire.specs.Reading.{item_of}
use Rattle.kmip_diag.specs.Skeleton.{Skeleton, skeleton}
use Rattle.kmip_client.specs.Session.{Turn}
use Rattle.kmip_client.specs.Skeletons.{taken_by}

-- Each request is valid, and what is taken for it is a message that parses.
abbrev pub AllAnswered : List Turn → Type 0
AllAnswered [] = Unit {0}
AllAnswered (turn ∷ turns) =
    IsSome turn.request × ((tree : Tree) × Parses tree 1 (taken_by turn)) × AllAnswered turns

-- the skeleton of the item that bytes are, where they are one
abbrev pub skeleton_in : List ℕ → Option Skeleton
skeleton_in b = option_map skeleton (item_of 64 b)

-- the skeletons of the requests and of the responses, in order
abbrev pub skeletons_in : List Turn → List (Option Skeleton × Option Skeleton)
skeletons_in turns =
    map (λ turn. (option_and_then skeleton_in turn.request, skeleton_in (taken_by turn))) turns
