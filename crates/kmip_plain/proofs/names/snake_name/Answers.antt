use Rattle.std.proofs.Common.{◌≡◌, ◌∙◌, ℕ, ◌-◌, ◌≤◌, false, cond, List, None, Option, option_map, slice_get, map, Bor, sym, ap, nat_lt, arith}
use Rattle.std.proofs.lemmas.Bool.Decides.{nat_tests}
use Rattle.std.proofs.lemmas.Option.{slice_get-map}
use Rattle.kmip_tags.specs.Table.{first_tag}
use Rattle.kmip_encodings.specs.Words.{words, tag_word}
use Rattle.kmip_plain.specs.Names.{plain_names, snake_case}
use Rattle.kmip_plain.proofs.names.snake_name.Goals as goal

snake_at : (tag number : ℕ) (names : List (Bor (List ℕ))) (found : Option (List ℕ)) → number ≡ tag
    → first_tag ≤ number → map (λ (name : Bor (List ℕ)). name.now) names ≡ plain_names
    → found ≡ slice_get (map (λ (name : Bor (List ℕ)). name.now) names) (number - first_tag)
    → found ≡ option_map snake_case (tag_word tag)
unfolding plain_names
snake_at tag number names found same h is at =
    let past : nat_lt tag first_tag ≡ false = grind (arith, nat_tests) in
    at ∙ ap (λ l. slice_get l (number - first_tag)) is
    ∙ ap (λ n. slice_get (map snake_case words) (n - first_tag)) same
    ∙ slice_get-map snake_case words (tag - first_tag)
    ∙ ap (λ b. option_map snake_case (cond b None (slice_get words (tag - first_tag)))) (sym past)

pub returns : goal.returns
returns c =
    snake_at c.args.tag c.number-number.result c.all_names.result.now _ c.number-number.ensures.number
    c.if-number-lt-FIRST.false c.all_names.ensures c.nth.ensures
