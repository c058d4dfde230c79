-- Lines of JSON (RFC 8259).
use Rattle.std.specs.Prelude.{◌≡◌, ℕ, List, ◌++◌, codes}
use Rattle.kmip_shape.specs.Json.{IsJson, IsJsonText}

-- a text of the grammar of JSON, and a line feed after it
abbrev pub IsGrammarLine : List ℕ → Type 0
IsGrammarLine line = (text : List ℕ) × IsJson text × (line ≡ text ++ codes "\n")

-- a text of JSON, which is of the grammar and in UTF-8, and a line feed after it
abbrev pub IsJsonLine : List ℕ → Type 0
IsJsonLine line = (text : List ℕ) × IsJsonText text × (line ≡ text ++ codes "\n")
