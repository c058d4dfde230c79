-- Written by tables/generate.py from tables/*.toml: change these instead.
-- The kinds of names: KMIP 1.2, 9.1.3.2.
use Rattle.std.specs.Prelude.{List, [], ◌∷◌, map, codes}
use Rattle.std.proofs.Common.{rules}
use Rattle.kmip_shape.specs.Val.{Val}
use Rattle.kmip_shape.specs.Shape.{Entry}
use Rattle.kmip_shape.specs.Same.{IsFaithful}
use Rattle.kmip_shape.specs.Enumerations.{entry, enumeration_val, AreFound, same_variant}
use Rattle.kmip_enums.specs.declared.name_type.NameType.{NameType}
use Rattle.kmip_enums.specs.declared.name_type.NameType.TheVariants.{UninterpretedTextString, URI}

-- the number and the name of each
abbrev pub name_type_line : NameType → Entry
name_type_line UninterpretedTextString = entry 0x1 (codes "UninterpretedTextString")
name_type_line URI = entry 0x2 (codes "URI")

-- in the order of their numbers
abbrev pub name_type_variants : List NameType
name_type_variants = UninterpretedTextString ∷ URI ∷ []

abbrev pub name_types : List Entry
name_types = map name_type_line name_type_variants

abbrev pub name_type_val : NameType → Val
name_type_val = enumeration_val name_type_line

pub name_type_found : AreFound name_type_line name_type_variants
name_type_found x = search rules

pub name_type_same : IsFaithful name_type_val
name_type_same = same_variant name_type_line name_type_variants name_type_found
