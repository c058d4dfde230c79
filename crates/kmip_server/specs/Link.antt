-- A link over a server of its own, as contracts see it, and what holds of each.
use Rattle.std.specs.Prelude.{◌≡◌, ℕ, ℤ, pos, negsuc, ◌*◌, ◌<◌, ◌≤◌, suc, List, [], ◌∷◌, ◌++◌, length, Bool, true, false, Some, None, IsTrue, Result, Ok, Err, take}
use Rattle.kmip_link.specs.State.{LinkState}
use Rattle.kmip_link.specs.declared.link.LinkError.{LinkError}
use Rattle.kmip_link.specs.declared.link.LinkError.TheVariants.{Fault, OutOfMemory}
use Rattle.kmip_wire.specs.declared.error.WireError.TheVariants.{NoForm}
use Rattle.kmip_store.specs.declared.object.Object.{Object}
use Rattle.kmip_store.specs.declared.maker.Made.{Made}
use Rattle.kmip_store.specs.Makers.{MakerState}
use Rattle.kmip_server_core.specs.State.{ServerState, AnswersRequest}
use Rattle.kmip_server.specs.Split.{is_message, messages_in}
use Rattle.kmip_server.specs.Machine.{fresh, serve, run_of}
use Rattle.kmip_server.specs.Serving.{AreResponsesHeld}
use Rattle.kmip_server.specs.declared.link.Refusal.{Refusal}

pub record ServerLinkState (M : Type 0) : Type 0 where
  pub server : ServerState M
  pub ever : List ℕ
  pub pos : ℕ
  pub sent : List ℕ
  -- the message whose response has no wire form, once there is one
  pub kept : List ℕ
  pub faults : ℕ
  -- whether a write ran out of memory
  pub starved : Bool

-- a number for each time stamp, no two the same
abbrev pub time_number : ℤ → ℕ
time_number (pos n) = 2 * n
time_number (negsuc n) = suc (2 * n)

abbrev pub bit_of : Bool → ℕ
bit_of true = 1
bit_of false = 0

-- the link as a client sees it
abbrev pub server_link_state : {M : Type 0} → (M → MakerState) → ServerLinkState M → LinkState
server_link_state state link = record {
  tells = true;
  still = false;
  mark = time_number link.server.time ∷ bit_of (state link.server.maker).tells ∷ [];
  ever = link.ever;
  pos = link.pos;
  sent = link.sent;
  faults = link.faults;
}

-- The objects, the questions and the bytes to read are what serving the whole messages comes to,
-- with the maker's answers in order, whatever answers come later.
abbrev pub IsServed : ℤ → List Object → MakerState → List ℕ → List ℕ → Type 0
IsServed time objects maker ever sent = (more : List Made) →
    run_of time (maker.given ++ more)
    (messages_in sent).whole ≡ record {
      objects = objects;
      ever = Some ever;
      asked = maker.asked;
      given = more;
    }

-- and each response was a message that Rust can hold
pub record HasServed (time : ℤ) (objects : List Object) (maker : MakerState)
    (ever sent : List ℕ) : Type 0 where
  pub run : IsServed time objects maker ever sent
  pub held : (more : List Made) →
      AreResponsesHeld time (fresh (maker.given ++ more)) (messages_in sent).whole

-- What holds once there was a message whose response has no wire form: the same, but that the maker
-- was last asked the question of that message, where it has one. The message begins with what was
-- sent of it, and is longer.
pub record IsCut (time : ℤ) (objects : List Object) (maker : MakerState)
    (ever sent kept : List ℕ) : Type 0 where
  pub objects_are : (run_of time maker.given (messages_in sent).whole).objects ≡ objects
  pub ever_is : (run_of time maker.given (messages_in sent).whole).ever ≡ Some ever
  pub held : AreResponsesHeld time (fresh maker.given) (messages_in sent).whole
  pub none : (serve time (run_of time maker.given (messages_in sent).whole) kept).ever ≡ None
  pub asked : (serve time (run_of time maker.given (messages_in sent).whole)
      kept).asked ≡ maker.asked
  pub given : (serve time (run_of time maker.given (messages_in sent).whole) kept).given ≡ []
  pub message : is_message kept ≡ true
  pub begins : take (length (messages_in sent).begun) kept ≡ (messages_in sent).begun
  pub longer : length (messages_in sent).begun < length kept

-- What holds of each link.
pub record LinkFacts {M : Type 0} (state : M → MakerState) (link : ServerLinkState M) : Type 0 where
  pub within : link.pos ≤ length link.ever
  -- no message is kept before there was a fault
  pub none_kept : link.faults ≡ 0 → link.kept ≡ []
  -- where it is not starved and its maker tells: before a fault, and after one
  pub serves : link.starved ≡ false → IsTrue (state link.server.maker).tells → link.faults ≡ 0 →
      HasServed link.server.time link.server.objects (state link.server.maker) link.ever link.sent
  pub cut : link.starved ≡ false → IsTrue (state link.server.maker).tells → 0 < link.faults →
      IsCut link.server.time link.server.objects (state link.server.maker) link.ever link.sent
      link.kept

-- the same, with the bytes of the message that is begun
pub record LinkInvariant {M : Type 0} (state : M → MakerState) (link : ServerLinkState M)
    (begun : List ℕ) : Type 0 where
  pub facts : LinkFacts state link
  pub begun_is : begun ≡ (messages_in link.sent).begun

-- a link that calls can go over: it is neither starved nor faulted, was sent only whole messages,
-- and its maker tells
pub record IsOpen {M : Type 0} (state : M → MakerState) (link : ServerLinkState M) : Type 0 where
  pub fed : link.starved ≡ false
  pub sound : link.faults ≡ 0
  pub whole : (messages_in link.sent).begun ≡ []
  pub tells : IsTrue (state link.server.maker).tells

-- a maker that was asked nothing yet
pub record IsUnused (maker : MakerState) : Type 0 where
  pub asked : maker.asked ≡ []
  pub given : maker.given ≡ []

-- a link that was just made, whose maker tells
pub record IsNew {M : Type 0} (state : M → MakerState) (link : ServerLinkState M) : Type 0 where
  pub ever : link.ever ≡ []
  pub pos : link.pos ≡ 0
  pub sent : link.sent ≡ []
  pub sound : link.faults ≡ 0
  pub fed : link.starved ≡ false
  pub tells : IsTrue (state link.server.maker).tells

-- what a link holds of its server between two writes
pub record Holds {M : Type 0} (state : M → MakerState) (server : ServerState M)
    (ever sent begun : List ℕ) : Type 0 where
  pub begun_is : begun ≡ (messages_in sent).begun
  pub serves : HasServed server.time server.objects (state server.maker) ever sent

-- the message that is kept after a refusal
abbrev pub kept_in : Refusal → List ℕ
kept_in (Refusal.NoForm message) = message.items
kept_in Refusal.OutOfMemory = []

abbrev pub is_memory : Refusal → Bool
is_memory (Refusal.NoForm message) = false
is_memory Refusal.OutOfMemory = true

-- what it holds once the server was handed a message whose response has no wire form
abbrev pub IsRefused : {M : Type 0} → (M → MakerState) → ServerState M → List ℕ → List ℕ →
    Result ℕ Refusal → Type 0
IsRefused state server ever sent (Err (Refusal.NoForm message)) =
    IsCut server.time server.objects (state server.maker) ever sent message.items
IsRefused state server ever sent _ = Unit {0}

-- a write took the first n of the bytes, and added any response at the end of what there is to read
pub record Accepted (bytes : List ℕ) (n : ℕ) (ever ever' sent sent' : List ℕ) : Type 0 where
  pub within : n ≤ length bytes
  pub some : 0 < length bytes → 0 < n
  pub sent_is : sent' ≡ sent ++ take n bytes
  pub more : List ℕ
  pub ever_is : ever' ≡ ever ++ more

-- ---- one write

-- What a link that was not faulted did with bytes: `server`, `ever` and `sent` are those before,
-- and `server'`, `ever'` and `sent'` those after.
pub data WriteEffect {M : Type 0} (state : M → MakerState) (server server' : ServerState M)
    (ever ever' sent sent' bytes : List ℕ) (result : Result ℕ Refusal) : Type 0 where
  -- all bytes are taken, and the begun message goes on
  goes_on : (n : ℕ) → result ≡ Ok n → n ≡ length bytes →
      (messages_in sent').whole ≡ (messages_in sent).whole → server' ≡ server → ever' ≡ ever →
      WriteEffect state server server' ever ever' sent sent' bytes result
  -- it ends, and the server's response to it is added after what there was to read
  ends : (n : ℕ) (message response : List ℕ) → result ≡ Ok n →
      messages_in sent' ≡ record { whole = (messages_in sent).whole ++ message ∷ []; begun = [] } →
      AnswersRequest state server server' message (Ok response) → ever' ≡ ever ++ response →
      WriteEffect state server server' ever ever' sent sent' bytes result
  -- it ends, and the response to it has no wire form
  formless : (n : ℕ) (refusal : Refusal) → result ≡ Err refusal →
      is_message (kept_in refusal) ≡ true →
      kept_in refusal ≡ (messages_in sent).begun ++ take n bytes →
      AnswersRequest state server server' (kept_in refusal) (Err NoForm) →
      is_memory refusal ≡ false →
      WriteEffect state server server' ever ever' sent sent' bytes result
  no_memory : result ≡ Err Refusal.OutOfMemory →
      WriteEffect state server server' ever ever' sent sent' bytes result

-- What a write did. It returns `Fault` exactly where the link is faulted already, and then the
-- server is not asked, or where it ends a message whose response has no wire form: then the link
-- keeps this message, and else what it kept. It takes bytes up to the end of a message. It starves
-- the link only where memory runs out.
pub data WritesTo {M : Type 0} (state : M → MakerState) (before after : ServerLinkState M)
    (bytes : List ℕ) (result : Result ℕ LinkError) : Type 0 where
  refused : 0 < before.faults → result ≡ Err Fault → after.starved ≡ before.starved →
      after.server ≡ before.server → after.kept ≡ before.kept →
      WritesTo state before after bytes result
  goes_on : (n : ℕ) → before.faults ≡ 0 → after.starved ≡ before.starved → result ≡ Ok n →
      n ≡ length bytes → (messages_in after.sent).whole ≡ (messages_in before.sent).whole →
      after.server ≡ before.server → after.ever ≡ before.ever → after.kept ≡ before.kept →
      WritesTo state before after bytes result
  ends : (n : ℕ) (message response : List ℕ) → before.faults ≡ 0 → after.starved ≡ before.starved →
      result ≡ Ok n → messages_in
      after.sent ≡ record { whole = (messages_in before.sent).whole ++ message ∷ []; begun = [] } →
      AnswersRequest state before.server after.server message (Ok response) →
      after.ever ≡ before.ever ++ response → after.kept ≡ before.kept →
      WritesTo state before after bytes result
  formless : (n : ℕ) → before.faults ≡ 0 → after.starved ≡ before.starved → result ≡ Err Fault →
      is_message after.kept ≡ true → after.kept ≡ (messages_in before.sent).begun ++ take n bytes →
      AnswersRequest state before.server after.server after.kept (Err NoForm) →
      WritesTo state before after bytes result
  -- the link is starved from then on
  no_memory : before.faults ≡ 0 → result ≡ Err OutOfMemory → after.starved ≡ true →
      after.faults ≡ 0 → after.kept ≡ before.kept → WritesTo state before after bytes result
