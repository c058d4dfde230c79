-- Lines of JSON (RFC 8259) that show an item or an error.
use Rattle.std.specs.Prelude.{◌≡◌, ◌⊎◌, ℕ, List, ◌++◌, Option, Some, codes, IsUtf8}
use Rattle.std.specs.Option.{option_and_then}
use Rattle.json.specs.Json.{Json, object, member, no_members, value, if_last}
use Rattle.json.specs.Lex.{tokens}
use Rattle.kmip_wire.specs.Tree.{Tree}
use Rattle.kmip_plain.specs.Payload.{payload_json}
use Rattle.kmip_plain.specs.declared.payload.PayloadForm.{PayloadForm}
use Rattle.kmip_words.specs.JsonLines.{IsGrammarLine}

-- the value that a text is, where arrays and objects nest at most so deep; `document` of the crate
-- json is this with 128
abbrev pub document_within : ℕ → List ℕ → Option Json
document_within deep text = option_and_then (λ p. if_last p.0 p.1) (value deep (tokens text))

-- the line is a text of JSON with this value, and a line feed
pub record IsLineOf (json : Json) (line : List ℕ) : Type 0 where
  pub text : List ℕ
  pub deep : ℕ
  pub reads : document_within deep text ≡ Some json
  pub line_is : line ≡ text ++ codes "\n"

-- the line is a text of JSON in UTF-8, and a line feed: by the grammar of the crate json, or by that
-- of kmip_shape
pub record IsTextLine (line : List ℕ) : Type 0 where
  pub grammar : ((json : Json) × IsLineOf json line) ⊎ IsGrammarLine line
  pub utf8 : IsUtf8 line

-- what the line of a tree in this form means
abbrev pub answer_json : PayloadForm → Tree → Json
answer_json form tree = object (member (codes "answer") (payload_json form tree) no_members)
