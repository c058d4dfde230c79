-- The pieces of a printed text, and the ranges of their numbers.
use Rattle.std.specs.Prelude.{ℕ, ◌<◌, ◌^◌, List, [], ◌∷◌, ◌++◌, Option}
use Rattle.kmip_diag.specs.declared.token.Mark.{Mark}
use Rattle.kmip_diag.specs.declared.token.Mark.TheVariants.{Enumeration}
use Rattle.kmip_diag.specs.declared.token.Token.{Token}
use Rattle.kmip_diag.specs.declared.token.Token.TheVariants.{Scalar, Open, Close}
use Rattle.kmip_diag.specs.Skeleton.{Skeleton, Skeletons, scalar, structure, none, more}
use Rattle.kmip_diag.specs.Printed.{printed_tag, printed_mark}

abbrev pub token_text : Option ℕ → Token → List ℕ
token_text prefix (Scalar tag mark) = printed_tag prefix tag ++ printed_mark mark
token_text prefix (Open tag) = printed_tag prefix tag ++ (91 ∷ [])
token_text prefix Close = 93 ∷ []

-- an enumeration's number has 32 bits
abbrev pub IsMark : Mark → Type 0
IsMark (Enumeration n) = n < 2 ^ 32
IsMark _ = Unit {0}

-- a tag has 24 bits
abbrev pub IsToken : Token → Type 0
IsToken (Scalar tag mark) = (tag < 2 ^ 24) × IsMark mark
IsToken (Open tag) = tag < 2 ^ 24
IsToken Close = Unit {0}

abbrev mutual
  pub IsSkeleton : Skeleton → Type 0
  IsSkeleton (scalar tag mark) = (tag < 2 ^ 24) × IsMark mark
  IsSkeleton (structure tag ts) = (tag < 2 ^ 24) × AreSkeletons ts

  pub AreSkeletons : Skeletons → Type 0
  AreSkeletons none = Unit {0}
  AreSkeletons (more t ts) = IsSkeleton t × AreSkeletons ts
