-- The frames at the front of some bytes, one after the other.
use Rattle.std.specs.Prelude.{ℕ, zero, suc, List, [], ◌∷◌, length, drop, Option, Some, None}
use Rattle.kmip_client.specs.Message.{Message, Whole, message_at}

-- the frame at the front: the head of a structure and as many bytes as it says (KMIP 1.0, 9.1.1)
abbrev pub frame_of : Message → Option (List ℕ)
frame_of (Whole m) = Some m
frame_of message = None

unfoldable pub front_frame : List ℕ → Option (List ℕ)
front_frame b = frame_of (message_at b None)

-- what follows it
abbrev pub after_frame : List ℕ → Option (List ℕ) → List ℕ
after_frame b (Some m) = drop (length m) b
after_frame b None = b

pub record Frames : Type 0 where
  pub all : List (List ℕ)
  -- the bytes after them
  pub rest : List ℕ

abbrev pub then_frames : List ℕ → Option (List ℕ) → Frames → Frames
then_frames b None later = record { all = []; rest = b }
then_frames b (Some m) later = record { all = m ∷ later.all; rest = later.rest }

-- with fuel for each byte
abbrev pub frames_by : ℕ → List ℕ → Frames
frames_by zero b = record { all = []; rest = b }
frames_by (suc fuel) b =
    then_frames b (front_frame b) (frames_by fuel (after_frame b (front_frame b)))

-- all frames at the front, one after the other
unfoldable pub frames : List ℕ → Frames
frames b = frames_by (length b) b
