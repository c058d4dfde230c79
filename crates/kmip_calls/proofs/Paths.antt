-- Paths of tags.
use Rattle.std.proofs.Common.{◌≡◌, ℕ, ◌≤◌, List, [], ◌∷◌, length, drop, get_or, map, Bor, Option, Some, None, refl, sym, ap, ◌∙◌, arith}
use Rattle.std.specs.Option.{option_and_then}
use Rattle.json.specs.Json.{Json}
use Rattle.kmip_request_words.specs.Values.{number_of}
use Rattle.kmip_calls.specs.Values.{item_in, item_at, index_first, with_index, by_index}

whole : (found : Option Json) → found ≡ option_and_then (item_at []) found
whole (Some here) = refl
whole None = refl

one_tag : (tag : List ℕ) (rest : List (List ℕ)) (here : Json) →
    item_at (tag ∷ rest) here
    ≡ option_and_then (item_at (index_first rest).1) (item_in tag (index_first rest).0 here)
one_tag tag [] here = whole (item_in tag 0 here)
one_tag tag (next ∷ names) here = by (number_of next)
  where
    by : (index : Option ℕ) →
        by_index index (λ k. option_and_then (item_at names) (item_in tag k here))
        (option_and_then (item_at (next ∷ names)) (item_in tag 0 here))
        ≡ option_and_then (item_at (with_index index names (next ∷ names)).1)
        (item_in tag (with_index index names (next ∷ names)).0 here)
    by (Some index) = refl
    by None = refl

pub at_path : (path : List (Bor (List ℕ))) (d : Bor (List ℕ)) (here found : Json) (index : ℕ)
    (behind : List (List ℕ)) (result : Option Json) → 1 ≤ length path →
    index ≡ (index_first (map (λ name. name.now) (drop 1 path))).0 →
    behind ≡ (index_first (map (λ name. name.now) (drop 1 path))).1 →
    Some found ≡ item_in (get_or path 0 d).now index here → result ≡ item_at behind found →
    result ≡ item_at (map (λ name. name.now) path) here
at_path [] d here found index behind result some i b f is = absurd (omega (arith, some))
at_path (tag ∷ rest) d here found index behind result some i b f is =
    let rest_is = index_first (map (λ name. name.now) rest) in
    is ∙ ap (λ x. item_at x found) b
    ∙ ap (option_and_then (item_at rest_is.1)) (f ∙ ap (λ k. item_in tag.now k here) i)
    ∙ sym (one_tag tag.now (map (λ name. name.now) rest) here)
