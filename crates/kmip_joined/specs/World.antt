-- A client that is joined to a server in memory: its state between two calls, and what a call comes
-- to.
use Rattle.std.specs.Prelude.{ℕ, ◌+◌, pos, List, [], ◌++◌, length, drop, Option, Some, None}
use Rattle.std.specs.Option.{option_map}
use Rattle.kmip_link.specs.State.{left}
use Rattle.kmip_response_write.specs.Settled.{response_bytes}
use Rattle.kmip_store.specs.Plain.{PlainMemory, plain_answer, plain_state}
use Rattle.kmip_store.specs.declared.maker.Asked.{Asked}
use Rattle.kmip_store.specs.declared.maker.Made.{Made}
use Rattle.kmip_store.specs.declared.object.Object.{Object}
use Rattle.std.specs.Option.{option_to_list}
use Rattle.kmip_server_core.specs.Served.{served, asks}
use Rattle.kmip_server.specs.Link.{ServerLinkState, server_link_state}
use Rattle.kmip_words.specs.Exchange.{Settings, Step, step, request_asked, or_empty}
use Rattle.kmip_words.specs.declared.call.Call.{Call}

pub record World : Type 0 where
  -- the objects of the server
  pub objects : List Object
  -- how many answers the plain maker gave
  pub answers : ℕ
  -- the bytes that are left to read
  pub rest : List ℕ

abbrev pub nothing_yet : World
nothing_yet = record { objects = []; answers = 0; rest = [] }

-- the answer of the plain maker, where the server asks for one; its number is one more than that of
-- the answer before
abbrev pub next_made : World → Option Asked → Option Made
next_made world question = option_map (plain_answer (world.answers + 1)) question

-- The server is sent these bytes: it does what they ask for, and its response, with the time stamp
-- 0, is added after the bytes left.
abbrev pub after_request : World → List ℕ → World
after_request world request =
    let question = asks world.objects request in
    let s = served world.objects request (next_made world question) (pos 0) in
    record {
      objects = s.objects;
      answers = world.answers + length (option_to_list question);
      rest = world.rest ++ or_empty (response_bytes s.message);
    }

-- a request that has no wire form is not sent
abbrev pub after_sending : World → Option (List ℕ) → World
after_sending world None = world
after_sending world (Some request) = after_request world request

-- a call's step, and the state after it
pub record Joined : Type 0 where
  pub step : Step
  pub after : World

abbrev pub step_on : Settings → Call → World → Joined
step_on settings call world =
    let s = step settings call world.rest in
    record { step = s; after = record world { rest = drop s.taken world.rest } }

-- what a call comes to: its step over the bytes left and the response to its request
unfoldable pub joined_step : Settings → Call → World → Joined
joined_step settings call world =
    step_on settings call (after_sending world (request_asked call settings.credential).message)

-- the state of a client that is joined by this link
abbrev pub world_of : ServerLinkState PlainMemory → World
world_of link = record {
  objects = link.server.objects;
  answers = length link.server.maker.given;
  rest = left (server_link_state plain_state link);
}
