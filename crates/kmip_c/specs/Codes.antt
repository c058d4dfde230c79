-- What C gets in place of a length: numbers below zero.
use Rattle.std.specs.Prelude.{ℕ, ℤ, pos, negsuc, List, Option, Some, None, Result, Ok, Err, ◌==◌, length, if◌then◌else◌}
use Rattle.kmip_wire.specs.declared.error.HeadError.{HeadError}
use Rattle.kmip_wire.specs.declared.error.HeadError.TheVariants.{NotStructure, TooLong}
use Rattle.kmip_wire.specs.Heads.{head_says}
use Rattle.kmip_exports.specs.Exports.{not_a_message}

-- the codes -2, -3, -4 and -6; -5 is that of memory
abbrev pub grammar : ℤ
grammar = negsuc 1

abbrev pub no_value : ℤ
no_value = negsuc 2

abbrev pub too_long : ℤ
too_long = negsuc 3

abbrev pub no_form : ℤ
no_form = negsuc 5

-- the limit that a number stands for: 0 is no limit
abbrev pub limit_of : ℕ → Option ℕ
limit_of limit = if limit == 0 then None else Some limit

-- how many bytes follow a head, or why none do
abbrev pub length_code : Result ℕ HeadError → ℤ
length_code (Ok n) = pos n
length_code (Err NotStructure) = not_a_message
length_code (Err (TooLong size limit)) = too_long

-- the same for bytes, which are refused unless they are the eight of a head
abbrev pub contents_code : List ℕ → Option ℕ → ℤ
contents_code bytes limit =
    if length bytes == 8 then length_code (head_says bytes limit) else grammar
