-- Which words of a call give bytes.
use Rattle.std.specs.Prelude.{ℕ, ◌==◌, ◌&&◌, Bool, true, false}
use Rattle.std.specs.List.{list_any}
use Rattle.kmip_operation_words.specs.declared.rows.Kind.{Kind}
use Rattle.kmip_operation_words.specs.declared.rows.Kind.TheVariants.{Hex, Handle}
use Rattle.kmip_operation_words.specs.Rows.{Field, Place, word_at, Part, Row}

abbrev pub is_hex : Kind → Bool
is_hex Hex = true
is_hex Handle = true
is_hex kind = false

abbrev pub is_at : ℕ → Place → Bool
is_at index (word_at at) = at == index
is_at index place = false

-- whether the word with this index gives the field, in bytes
abbrev pub is_bytes_at : ℕ → Field → Bool
is_bytes_at index field = is_at index field.place && is_hex field.kind

abbrev pub has_bytes_at : ℕ → Part → Bool
has_bytes_at index part = list_any (is_bytes_at index) part.fields

-- whether the word with this index behind the name of a call, from 0 on, gives bytes in hex digits
abbrev pub takes_bytes : Row → ℕ → Bool
takes_bytes row index = list_any (has_bytes_at index) row.parts
