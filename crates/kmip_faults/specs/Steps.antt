-- What stands at the front of some bytes, where items of the level are looked for.
use Rattle.std.specs.Prelude.{◌≡◌, ℕ, ◌+◌, ◌≤◌, List, [], length, drop}
use Rattle.kmip_wire.specs.Head.{size_at, value_of}
use Rattle.kmip_wire.specs.Items.{item_tree}
use Rattle.kmip_diag.specs.Diagnostic.{ended, stopped, item, cut_off, shown_within}
use Rattle.kmip_encodings.specs.Sizes.{size_of}
use Rattle.kmip_faults.specs.declared.steps.Step.{Step}
use Rattle.kmip_faults.specs.declared.steps.Step.TheVariants.{Ended, Stopped, Item, CutOff}

abbrev pub IsStep : ℕ → List ℕ → Step → Type 0
IsStep level b Ended = (b ≡ []) × (shown_within level b ≡ ended)
IsStep level b Stopped = shown_within level b ≡ stopped
IsStep level b (Item it rest) =
    (shown_within level b ≡ item (item_tree it) (shown_within level rest.now))
    × (rest.now ≡ drop (size_at b) b)
    × (size_of (item_tree it) ≡ size_at b)
    × (size_at b + length rest.now ≡ length b)
IsStep level b (CutOff tag inner) =
    (shown_within level b ≡ cut_off tag (shown_within (level + 1) inner.now))
    × (inner.now ≡ value_of b)
    × (8 + length inner.now ≤ length b)
    × (level ≤ 64)
