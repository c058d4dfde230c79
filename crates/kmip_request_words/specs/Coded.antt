-- Values of enumerations by their names.
use Rattle.std.specs.Prelude.{ℕ, List, [], ◌∷◌, Option, Some, None, if◌then◌else◌, bytes_eq}
use Rattle.std.specs.Option.{option_map, option_and_then}
use Rattle.kmip_shape.specs.Shape.{Entry}

-- the first variant with this name
abbrev pub variant_named : {T : Type 0} → (T → Entry) → List T → List ℕ → Option T
variant_named line [] name = None
variant_named line (x ∷ xs) name =
    if bytes_eq (line x).name name then Some x else variant_named line xs name

-- the variant that a word names, where there is one, and else this one
abbrev pub variant_or : {T : Type 0} → (T → Entry) → List T → Option T → Option (List ℕ) →
    Option (Option T)
variant_or line variants default None = Some default
variant_or line variants default (Some name) = option_map Some (variant_named line variants name)

-- the variant that a word names; none where there is no word
abbrev pub variant_of : {T : Type 0} → (T → Entry) → List T → Option (List ℕ) → Option T
variant_of line variants name = option_and_then (variant_named line variants) name
