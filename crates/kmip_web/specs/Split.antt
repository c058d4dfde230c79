-- A listing as the page's script takes it apart: by line feeds, and each line by tabs.
use Rattle.std.specs.Prelude.{ℕ, ◌+◌, ◌==◌, Bool, true, List, [], ◌∷◌, ◌++◌, map, codes}
use Rattle.std.specs.List.{slice_split}
use Rattle.std.specs.Fmt.{decimal, digits}
use Rattle.kmip_wire.specs.declared.kind.Kind.{Kind}
use Rattle.kmip_wire.specs.declared.kind.Kind.TheVariants.{Structure}
use Rattle.kmip_wire.specs.Tree.{Tree, Trees, scalar, structure, none, more}
use Rattle.kmip_wire.specs.Kinds.{kind_of_scalar}
use Rattle.kmip_wire.specs.Names.{kind_name}
use Rattle.kmip_tags.specs.Tags as tags
use Rattle.kmip_tags.specs.Names.{name_of}
use Rattle.kmip_diag.specs.Lines.{name_text}
use Rattle.kmip_diag.specs.Diagnostic.{Shown, ended, stopped, item, cut_off, shown_within}
use Rattle.kmip_encodings.specs.Sizes.{size_of}
use Rattle.kmip_encodings.specs.Context.{place, named_after}
use Rattle.kmip_web.specs.Input.{is_feed}
use Rattle.kmip_web.specs.Listing.{value_text}

abbrev pub is_tab : ℕ → Bool
is_tab c = c == 9

-- the script's `parts.slice(0, -1)`
abbrev pub without_last : {X : Type 0} → List X → List X
without_last [] = []
without_last (x ∷ []) = []
without_last (x ∷ y ∷ ys) = x ∷ without_last (y ∷ ys)

-- the script's `text.split('\n').slice(0, -1).map(line => line.split('\t'))`
abbrev pub split_text : List ℕ → List (List (List ℕ))
split_text text = map (slice_split is_tab) (without_last (slice_split is_feed text))

-- the fields of an item's line: where it begins, its tag, its name, its type and its value
abbrev pub fields : ℕ → ℕ → Kind → List ℕ → List (List ℕ)
fields at tag kind value =
    decimal at ∷ digits 16 true tag ∷ name_text (name_of tag) ∷ kind_name kind ∷ value ∷ []

-- the line that closes a structure has one field
abbrev pub closing : List (List ℕ)
closing = codes "]" ∷ []

-- the fields of an item, and of those in it
abbrev mutual
  pub item_fields : ℕ → ℕ → Tree → List (List (List ℕ))
  item_fields at named (scalar tag s) =
      fields at tag (kind_of_scalar s) (value_text (place named tag) s) ∷ []
  item_fields at named (structure tag ts) = fields at tag Structure []
      ∷ (all_fields (at + 8) tags.ATTRIBUTE_VALUE ts ++ (closing ∷ []))

  pub all_fields : ℕ → ℕ → Trees → List (List (List ℕ))
  all_fields at named none = []
  all_fields at named (more t ts) =
      item_fields at named t ++ all_fields (at + size_of t) (named_after named t) ts

abbrev pub shown_fields : ℕ → ℕ → Shown → List (List (List ℕ))
shown_fields at named ended = []
shown_fields at named stopped = []
shown_fields at named (item t s) =
    item_fields at named t ++ shown_fields (at + size_of t) (named_after named t) s
shown_fields at named (cut_off tag s) =
    fields at tag Structure [] ∷ shown_fields (at + 8) tags.ATTRIBUTE_VALUE s

-- the fields of all items of any bytes, in order
unfoldable pub listed_fields : List ℕ → List (List (List ℕ))
listed_fields bytes = shown_fields 0 tags.ATTRIBUTE_VALUE (shown_within 1 bytes)
