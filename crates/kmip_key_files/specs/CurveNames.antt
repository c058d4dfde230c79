-- A name of a curve, and its number in KMIP 1.2 (9.1.3.2.5).
use Rattle.std.specs.Prelude.{ℕ, List, Option, find, bytes_eq}
use Rattle.std.specs.Option.{option_map}
use Rattle.kmip_key_files.specs.declared.curve_names.Named.{Named as TheNamed}

pub record Named : Type 0 where
  pub name : List ℕ
  pub number : ℕ

abbrev pub named : List ℕ → ℕ → Named
named name number = record { name = name; number = number }

abbrev pub named_view : TheNamed → Named
named_view x = named x.name.now x.number

-- the number of the first of rows with this name
abbrev pub number_in : List Named → List ℕ → Option ℕ
number_in rows name = option_map (λ row. row.number) (find (λ row. bytes_eq row.name name) rows)
