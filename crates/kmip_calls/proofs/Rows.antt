-- The rows of calls, where options stand.
use Rattle.std.proofs.Common.{◌≡◌, ℕ, List, map, Bor, Option, Some, None, refl, sym, ap, ◌∙◌}
use Rattle.std.specs.Prelude.{option_copied}
use Rattle.std.specs.List.{slice_get}
use Rattle.std.specs.Option.{option_map}
use Rattle.std.proofs.lemmas.Option.{slice_get-map}
use Rattle.kmip_request_words.specs.Grammar.{WordRow, word_view}
use Rattle.kmip_request_words.specs.declared.grammar.WordRow.{WordRow as TheWordRow}

viewed : (found : Option (Bor TheWordRow)) →
    option_map (λ word. word_view word.now) found ≡ option_map word_view (option_copied found)
viewed (Some word) = refl
viewed None = refl

pub word_at : (rows : List TheWordRow) (index : ℕ) (found : Option (Bor TheWordRow)) →
    option_copied found ≡ slice_get rows index →
    option_map (λ word. word_view word.now) found ≡ slice_get (map word_view rows) index
word_at rows index found is =
    viewed found ∙ ap (option_map word_view) is ∙ sym (slice_get-map word_view rows index)
