use Rattle.std.specs.Prelude.{ℕ, Bool, true, false, cond, ◌&&◌, List, [], ◌∷◌, ◌++◌, Option, Some, None, nat_eq}
use Rattle.kmip_wire.specs.Tree.{Scalar as Leaf, Tree, scalar, structure, trees_of, byte_string}
use Rattle.kmip_wire.specs.declared.kind.Kind.TheVariants.{Enumeration}
use Rattle.kmip_shape.specs.Val.{Val, Vals, Field, Fields, Number, Text, Bytes, Truth, Record, Case, Absent, One, Many, NoField, AndField, NoVal, AndVal}
use Rattle.kmip_shape.specs.Shape.{Shape, RowList, Cases, Scalar, OneOf, Rows, RowsOrBytes, Choice, Custom, NoRow, AndRow, NoCase, Formless, Selector, case_at, leaf_of, attribute_value, tag_or, place_tag}

abbrev pub item : ℕ → Option Leaf → Option Tree
item tag None = None
item tag (Some leaf) = Some (scalar tag leaf)

-- the tree of a value that is no record and no case
abbrev pub leaf_tree : Shape → ℕ → Val → Option Tree
leaf_tree (Scalar kind) tag val = item tag (leaf_of kind val)
leaf_tree (OneOf entries) tag val = item tag (leaf_of Enumeration val)
leaf_tree _ tag val = None

abbrev pub structure_of : ℕ → Option (List Tree) → Option Tree
structure_of tag None = None
structure_of tag (Some trees) = Some (structure tag (trees_of trees))

abbrev pub one_tree : Option Tree → Option (List Tree)
one_tree None = None
one_tree (Some tree) = Some (tree ∷ [])

-- both lists, one after the other, where there are both
abbrev pub then_trees : Option (List Tree) → Option (List Tree) → Option (List Tree)
then_trees None more = None
then_trees (Some trees) None = None
then_trees (Some trees) (Some more) = Some (trees ++ more)

-- the tree of a child of a custom structure, which has one where it is a leaf
abbrev pub plain_tree : Cases → Val → Option Tree
plain_tree cases (Case n val) =
    elim (case_at cases n) [ None ↦ None | Some c ↦ leaf_tree c.shape attribute_value val ]
plain_tree cases _ = None

abbrev pub plain_trees : Cases → Vals → Option (List Tree)
plain_trees cases NoVal = Some []
plain_trees cases (AndVal val vals) =
    then_trees (one_tree (plain_tree cases val)) (plain_trees cases vals)

abbrev pub custom_trees : Cases → Fields → Option (List Tree)
custom_trees cases (AndField (Many vals) NoField) = plain_trees cases vals
custom_trees cases _ = None

abbrev pub all_absent : Fields → Bool
all_absent NoField = true
all_absent (AndField Absent fields) = all_absent fields
all_absent (AndField _ fields) = false

-- the bytes of the first field, where it is of the case n and the other fields are absent
abbrev pub byte_form : ℕ → Fields → Option (List ℕ)
byte_form n (AndField (One (Case m (Bytes b))) fields) =
    cond (nat_eq m n && all_absent fields) (Some b) None
byte_form n _ = None

abbrev pub has_wire_form : Selector → Bool
has_wire_form Formless = false
has_wire_form _ = true

abbrev pub bytes_or : ℕ → Option (List ℕ) → Option Tree → Option Tree
bytes_or tag None tree = tree
bytes_or tag (Some b) tree = Some (scalar tag (byte_string b))

abbrev mutual
  pub tree_in : Val → Cases → Shape → ℕ → Option Tree
  tree_in (Number z) around shape tag = leaf_tree shape tag (Number z)
  tree_in (Text s) around shape tag = leaf_tree shape tag (Text s)
  tree_in (Bytes b) around shape tag = leaf_tree shape tag (Bytes b)
  tree_in (Truth b) around shape tag = leaf_tree shape tag (Truth b)
  tree_in (Record fields) around shape tag = elim shape [
    | Rows rows ↦ structure_of tag (field_trees fields NoCase rows)
    | RowsOrBytes n rows ↦
        bytes_or tag (byte_form n fields) (structure_of tag (field_trees fields NoCase rows))
    | Custom ↦ structure_of tag (custom_trees around fields)
    | _ ↦ None
  ]
  tree_in (Case n val) around shape tag = elim shape [
    | Choice rule cases ↦ elim (case_at cases n) [
      | None ↦ None
      | Some c ↦ cond (has_wire_form c.selector) (tree_in val cases c.shape (tag_or c.tag tag)) None
    ]
    | _ ↦ None
  ]

  pub field_trees : Fields → Cases → RowList → Option (List Tree)
  field_trees NoField around NoRow = Some []
  field_trees NoField around (AndRow name place mark role shape rows) = None
  field_trees (AndField field fields) around NoRow = None
  field_trees (AndField field fields) around (AndRow name place mark role shape rows) =
      then_trees (trees_in field around shape (place_tag place)) (field_trees fields around rows)

  -- the trees of a field
  pub trees_in : Field → Cases → Shape → ℕ → Option (List Tree)
  trees_in Absent around shape tag = Some []
  trees_in (One val) around shape tag = one_tree (tree_in val around shape tag)
  trees_in (Many vals) around shape tag = list_trees vals around shape tag

  pub list_trees : Vals → Cases → Shape → ℕ → Option (List Tree)
  list_trees NoVal around shape tag = Some []
  list_trees (AndVal val vals) around shape tag =
      then_trees (one_tree (tree_in val around shape tag)) (list_trees vals around shape tag)

-- the tree of a value of the shape, with this tag where no case has its own
abbrev pub tree_of : Shape → ℕ → Val → Option Tree
tree_of shape tag val = tree_in val NoCase shape tag
