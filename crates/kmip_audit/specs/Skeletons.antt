-- What the reports on captured streams show of their frames.
use Rattle.std.specs.Prelude.{◌≡◌, ℕ, List, map, Option}
use Rattle.std.specs.Option.{option_map}
use Rattle.kmip_wire.specs.Bytes.{AreBytes}
use Rattle.kmip_wire.specs.Parses.{AreTexts}
use Rattle.kmip_wire.specs.Reading.{item_of}
use Rattle.kmip_diag.specs.Skeleton.{Skeleton, skeleton}
use Rattle.kmip_audit.specs.Frames.{frames}
use Rattle.kmip_audit.specs.declared.outcomes.Outcome.{Outcome}
use Rattle.kmip_audit.specs.declared.reports.Report.{Report}

-- The stream is of bytes, and each frame of it parses.
pub record AllParse (stream : List ℕ) : Type 0 where
  pub bytes : AreBytes stream
  pub parse : AreTexts 1 (frames stream).all

-- the skeleton of each frame of a stream
abbrev pub skeletons_of : List (List ℕ) → List (Option Skeleton)
skeletons_of ms = map (λ m. option_map skeleton (item_of 64 m)) ms

abbrev pub frame_skeletons : List ℕ → List (Option Skeleton)
frame_skeletons stream = skeletons_of (frames stream).all

abbrev pub outcomes_in : Report → List Outcome
outcomes_in report = map (λ entry. entry.outcome) report.entries

-- Both reports have the same ends and the same outcomes.
pub record AreAlike (report other : Report) : Type 0 where
  pub sent_ends : report.sent_end ≡ other.sent_end
  pub received_ends : report.received_end ≡ other.received_end
  pub outcomes : outcomes_in report ≡ outcomes_in other
