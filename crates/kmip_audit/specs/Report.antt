-- The report on two captured streams.
use Rattle.std.specs.Prelude.{ℕ, ◌-◌, ◌==◌, Bool, true, false, List, [], ◌∷◌, length, Option, Some, None, if◌then◌else◌}
use Rattle.std.specs.Option.{option_map}
use Rattle.kmip_diag.specs.Diagnostic.{diagnostic}
use Rattle.kmip_audit.specs.Frames.{frames}
use Rattle.kmip_audit.specs.Outcomes.{outcome_of}
use Rattle.kmip_audit.specs.declared.reports.End.{End}
use Rattle.kmip_audit.specs.declared.reports.End.TheVariants.{Whole, Torn}
use Rattle.kmip_audit.specs.declared.reports.Entry.{Entry}
use Rattle.kmip_audit.specs.declared.reports.Report.{Report}

abbrev pub are_none : Option (List ℕ) → Option (List ℕ) → Bool
are_none None None = true
are_none f g = false

-- the entry of the frames at one place, where the sides have them
abbrev pub entry_of : Option (List ℕ) → Option (List ℕ) → Entry
entry_of request response = record {
  request = option_map (diagnostic (Some 0x4200)) request;
  response = option_map (diagnostic (Some 0x4200)) response;
  outcome = outcome_of request response;
}

-- the entries of the frames of both sides, place by place, as many as the longer side has
abbrev pub entries_of : List (List ℕ) → List (List ℕ) → List Entry
entries_of [] [] = []
entries_of [] (r ∷ rs) = entry_of None (Some r) ∷ entries_of [] rs
entries_of (q ∷ qs) [] = entry_of (Some q) None ∷ entries_of qs []
entries_of (q ∷ qs) (r ∷ rs) = entry_of (Some q) (Some r) ∷ entries_of qs rs

-- the end of a stream of `all` bytes, of which `rest` come after the frames
abbrev pub end_of : ℕ → ℕ → End
end_of all rest = if rest == 0 then Whole else Torn (all - rest)

abbrev pub report_of : List ℕ → List ℕ → Report
report_of sent received = record {
  entries = entries_of (frames sent).all (frames received).all;
  sent_end = end_of (length sent) (length (frames sent).rest);
  received_end = end_of (length received) (length (frames received).rest);
}
