-- The parts of a tree.
use Rattle.std.specs.Prelude.{ℕ, ℤ, Bool, List, Option, Some, None}
use Rattle.kmip_wire.specs.declared.kind.Kind.{Kind}
use Rattle.kmip_wire.specs.declared.kind.Kind.TheVariants.{Structure}
use Rattle.kmip_wire.specs.Tree.{Tree, Scalar, scalar, structure, list_of, integer, long_integer, big_integer, enumeration, boolean, text_string, byte_string, date_time, interval}
use Rattle.kmip_wire.specs.Kinds.{kind_of_scalar}

abbrev pub tag_of : Tree → ℕ
tag_of (scalar tag s) = tag
tag_of (structure tag ts) = tag

abbrev pub kind_of_tree : Tree → Kind
kind_of_tree (scalar tag s) = kind_of_scalar s
kind_of_tree (structure tag ts) = Structure

abbrev pub scalar_in : Tree → Option Scalar
scalar_in (scalar tag s) = Some s
scalar_in (structure tag ts) = None

abbrev pub children_in : Tree → Option (List Tree)
children_in (scalar tag s) = None
children_in (structure tag ts) = Some (list_of ts)

-- the value, where the item has this type

abbrev pub int_in : Tree → Option ℤ
int_in (scalar tag (integer z)) = Some z
int_in _ = None

abbrev pub long_in : Tree → Option ℤ
long_in (scalar tag (long_integer z)) = Some z
long_in _ = None

abbrev pub big_in : Tree → Option (List ℕ)
big_in (scalar tag (big_integer b)) = Some b
big_in _ = None

abbrev pub enumeration_in : Tree → Option ℕ
enumeration_in (scalar tag (enumeration n)) = Some n
enumeration_in _ = None

abbrev pub flag_in : Tree → Option Bool
flag_in (scalar tag (boolean b)) = Some b
flag_in _ = None

abbrev pub text_in : Tree → Option (List ℕ)
text_in (scalar tag (text_string b)) = Some b
text_in _ = None

abbrev pub bytes_in : Tree → Option (List ℕ)
bytes_in (scalar tag (byte_string b)) = Some b
bytes_in _ = None

abbrev pub date_in : Tree → Option ℕ
date_in (scalar tag (date_time n)) = Some n
date_in _ = None

abbrev pub interval_in : Tree → Option ℕ
interval_in (scalar tag (interval n)) = Some n
interval_in _ = None
