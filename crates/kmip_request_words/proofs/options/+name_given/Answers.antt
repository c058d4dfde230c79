use Rattle.std.proofs.Common.{◌≡◌, ◌∙◌, ◌≤◌, ℕ, List, [], ◌∷◌, length, map, drop, Bor, Some, true, false, refl, sym, arith, nat_eq, slice_index_or}
use Rattle.std.specs.List.{starts_with}
use Rattle.std.proofs.lemmas.Str.Pattern.{starts_text}
use Rattle.kmip_request_words.specs.Options.{name_given}
use Rattle.kmip_request_words.proofs.Rests.{rest_is}
use Rattle.kmip_request_words.proofs.options.+name_given.Goals as goal

name_first : (names : List (Bor (List ℕ))) (d : Bor (List ℕ)) (word : List ℕ) → 1 ≤ length names
    → starts_with nat_eq word (slice_index_or names 0 d).now ≡ true
    → Some (slice_index_or names 0 d).now ≡ name_given (map (λ name. name.now) names) word
name_first [] d word some is = absurd (omega arith)
name_first (name ∷ names) d word some is = rw is refl

name_later : (names : List (Bor (List ℕ))) (d : Bor (List ℕ)) (word : List ℕ) → 1 ≤ length names
    → starts_with nat_eq word (slice_index_or names 0 d).now ≡ false
    → name_given (map (λ name. name.now) (drop 1 names)) word
    ≡ name_given (map (λ name. name.now) names) word
name_later [] d word some is = absurd (omega arith)
name_later (name ∷ names) d word some is = rw is refl

pub returns-then-starts_with : goal.returns-then-starts_with
returns-then-starts_with t c =
    name_first c.args.names.now _ c.args.word.now c.in-len1-up.len_at_least
    (sym (starts_text c.starts_with.result _ c.args.word.now c.starts_with.ensures.cases)
    ∙ c.if-starts_with.true)

pub returns-else-starts_with : goal.returns-else-starts_with
returns-else-starts_with t c =
    let later = name_later c.args.names.now _ c.args.word.now c.in-len1-up.len_at_least
    (sym (starts_text c.starts_with.result _ c.args.word.now c.starts_with.ensures.cases)
    ∙ c.if-starts_with.false) in
    c.name_given.ensures ∙ rw (rest_is 1 c.args.names.now) later
