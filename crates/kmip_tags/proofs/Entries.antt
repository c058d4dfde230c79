-- The places of a table.
use Rattle.std.proofs.Common.{◌≡◌, refl, ◌∙◌, ap, ℕ, zero, suc, ◌+◌, ◌<◌, ◌≤◌, List, [], ◌∷◌, length, map, option_map, Some, None, slice_get, arith, get_or}
use Rattle.std.proofs.lemmas.Option.{slice_get-get_or, slice_get_past}
use Rattle.kmip_tags.specs.Names.{entries_from}

module _ {X : Type 0} (v : X → List ℕ) where
  pub entries_count : (tag : ℕ) (xs : List X) → length (entries_from tag (map v xs)) ≡ length xs
  entries_count tag [] = refl
  entries_count tag (x ∷ xs) = omega (arith, entries_count (tag + 1) xs)

  entry_at : (tag n i : ℕ) (xs : List X) → n ≡ tag + i
      → slice_get (entries_from tag (map v xs)) i ≡ option_map (λ x. (n, v x)) (slice_get xs i)
  entry_at tag n i [] e = refl
  entry_at tag n zero (x ∷ xs) e = let same : tag ≡ n = omega (arith, e) in ap (λ m. Some (m, v x)) same
  entry_at tag n (suc i) (x ∷ xs) e = entry_at (tag + 1) n i xs (omega (arith, e))

  pub entry_within : (tag i : ℕ) (xs : List X) (d : X) → i < length xs
      → slice_get (entries_from tag (map v xs)) i ≡ Some (tag + i, v (get_or xs i d))
  entry_within tag i xs d h = entry_at tag (tag + i) i xs refl
      ∙ ap (option_map (λ x. (tag + i, v x))) (slice_get-get_or xs i d h)

  pub entry_past : (tag i : ℕ) (xs : List X) → length xs ≤ i → slice_get (entries_from tag (map v xs)) i ≡ None
  entry_past tag i xs h = entry_at tag (tag + i) i xs refl
      ∙ ap (option_map (λ x. (tag + i, v x))) (slice_get_past xs i h)
