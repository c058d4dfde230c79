-- Written by tables/generate.py from tables/*.toml: change these instead.
-- The functions of a Query: KMIP 1.2, 9.1.3.2.
use Rattle.std.specs.Prelude.{List, [], ◌∷◌, map, codes}
use Rattle.std.proofs.Common.{rules}
use Rattle.kmip_shape.specs.Val.{Val}
use Rattle.kmip_shape.specs.Shape.{Entry}
use Rattle.kmip_shape.specs.Same.{IsFaithful}
use Rattle.kmip_shape.specs.Enumerations.{entry, enumeration_val, AreFound, same_variant}
use Rattle.kmip_enums.specs.declared.query_function.QueryFunction.{QueryFunction}
use Rattle.kmip_enums.specs.declared.query_function.QueryFunction.TheVariants.{QueryOperations, QueryObjects, QueryServerInformation}

-- the number and the name of each
abbrev pub query_function_line : QueryFunction → Entry
query_function_line QueryOperations = entry 0x1 (codes "QueryOperations")
query_function_line QueryObjects = entry 0x2 (codes "QueryObjects")
query_function_line QueryServerInformation = entry 0x3 (codes "QueryServerInformation")

-- in the order of their numbers
abbrev pub query_function_variants : List QueryFunction
query_function_variants = QueryOperations ∷ QueryObjects ∷ QueryServerInformation ∷ []

abbrev pub query_functions : List Entry
query_functions = map query_function_line query_function_variants

abbrev pub query_function_val : QueryFunction → Val
query_function_val = enumeration_val query_function_line

pub query_function_found : AreFound query_function_line query_function_variants
query_function_found x = search rules

pub query_function_same : IsFaithful query_function_val
query_function_same = same_variant query_function_line query_function_variants query_function_found
