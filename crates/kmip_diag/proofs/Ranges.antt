-- The skeleton of a tree is in range where the tree is.
use Rattle.kmip_wire.specs.Tree.{Tree, Trees, Scalar, scalar, structure, none, more, integer, long_integer, big_integer, enumeration, boolean, text_string, byte_string, date_time, interval}
use Rattle.kmip_wire.specs.Bytes.{IsInRange, HasRanges, HaveRanges}
use Rattle.kmip_diag.specs.Skeleton.{skeleton, skeletons, mark_of}
use Rattle.kmip_diag.specs.Tokens.{IsMark, IsSkeleton, AreSkeletons}

mark_ranges : (s : Scalar) → IsInRange s → IsMark (mark_of s)
mark_ranges (integer x) h = tt
mark_ranges (long_integer x) h = tt
mark_ranges (big_integer x) h = tt
mark_ranges (enumeration x) h = h
mark_ranges (boolean x) h = tt
mark_ranges (text_string x) h = tt
mark_ranges (byte_string x) h = tt
mark_ranges (date_time x) h = tt
mark_ranges (interval x) h = tt

mutual
  pub skeleton_ranges : (t : Tree) → HasRanges t → IsSkeleton (skeleton t)
  skeleton_ranges (scalar tag s) h = (h.0, mark_ranges s h.1)
  skeleton_ranges (structure tag ts) h = (h.0, skeletons_ranges ts h.1)

  skeletons_ranges : (ts : Trees) → HaveRanges ts → AreSkeletons (skeletons ts)
  skeletons_ranges none h = tt
  skeletons_ranges (more t ts) h = (skeleton_ranges t h.0, skeletons_ranges ts h.1)
