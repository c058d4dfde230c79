-- The field of a row, where some of its items were read or kept already and further ones follow.
use Rattle.std.specs.Prelude.{ℕ, Bool, filter, if◌then◌else◌, true, false, Option, Some, None, List, [], ◌∷◌}
use Rattle.std.specs.Option.{option_map, option_and_then}
use Rattle.kmip_wire.specs.Tree.{Tree}
use Rattle.kmip_wire.specs.Parts.{children_in}
use Rattle.kmip_shape.specs.Val.{Val, Vals, Field, Case, Absent, One, Many, NoVal, AndVal, vals_then}
use Rattle.kmip_shape.specs.Shape.{Shape, Cases, NoCase, AndCase, NumberKey, matches, has_tag, tag_or, Mark, Required, Optional, AnyNumber, AtLeastOne, OptionalList, OuterValue}
use Rattle.kmip_shape.specs.Reads.{marked_field, each, read_in, read_of}
use Rattle.kmip_shape.specs.declared.read.Outer.{Outer}

-- the chooser that the code's `Outer` stands for
abbrev pub outer_of : Outer → OuterValue
outer_of outer = record { number = outer.number; name = option_map (λ s. s.now) outer.name }

-- a field that is whole: a further item makes it none
abbrev pub full : Field → List Tree → Option Field
full field [] = Some field
full field (_ ∷ _) = None

-- a row of at most one item, after an item that was read as this value, or after none
abbrev pub resume_single : Mark → (Tree → Option Val) → Option Val → List Tree → Option Field
resume_single mark read None trees = marked_field mark read trees
resume_single mark read (Some val) trees = full (One val) trees

-- the values of items, after items that were read as these values
unfoldable pub values_with : (Tree → Option Val) → List Val → List Tree → Option Vals
values_with read vals trees = option_map (vals_then vals) (each read trees)

-- the field of a row that holds several items, from their values
abbrev pub many_field : Mark → Vals → Option Field
many_field Required vals = None
many_field Optional vals = None
many_field AnyNumber vals = Some (Many vals)
many_field AtLeastOne NoVal = None
many_field AtLeastOne (AndVal val vals) = Some (Many (AndVal val vals))
many_field OptionalList NoVal = Some Absent
many_field OptionalList (AndVal val vals) = Some (Many (AndVal val vals))

-- a row that holds several items, after items that were read as these values
abbrev pub resume_many : Mark → (Tree → Option Val) → List Val → List Tree → Option Field
resume_many mark read vals trees = option_and_then (many_field mark) (values_with read vals trees)

-- a row of at most one item, of which one was kept or none
abbrev pub resume_kept : Mark → (Tree → Option Val) → Option Tree → List Tree → Option Field
resume_kept mark read None trees = marked_field mark read trees
resume_kept mark read (Some tree) trees = marked_field mark read (tree ∷ trees)

-- the one item under a tag, where one was kept, or none, or there were several
abbrev pub resume_only : (Tree → Option Val) → Bool → Option Tree → List Tree → Option Field
resume_only read true kept trees = None
resume_only read false kept trees = resume_kept Required read kept trees

-- a required row under the tag of its case: the one item under the tag of the case that the number
-- selects
abbrev pub case_field : Cases → Cases → OuterValue → ℕ → List Tree → Option Field
case_field NoCase around outer n trees = None
case_field (AndCase k name selector fixed shape cases) around outer n trees =
    if matches (NumberKey n) selector
    then marked_field Required (λ tree. option_map (Case k) (read_in shape around outer tree))
    (filter (has_tag (tag_or fixed 0)) trees)
    else case_field cases around outer n trees

-- the field of a plain row under a tag, read from the children of a tree
abbrev pub read_row : Mark → Shape → OuterValue → ℕ → Tree → Option Field
read_row mark shape outer tag tree =
    option_and_then (λ trees. marked_field mark (read_of shape outer) (filter (has_tag tag) trees))
    (children_in tree)
