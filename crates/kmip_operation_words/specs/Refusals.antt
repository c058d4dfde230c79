-- Why words are no call of the table.
use Rattle.std.specs.Prelude.{◌≡◌, ℕ, List, [], ◌∷◌, ◌++◌, codes, Option, Some, None}
use Rattle.kmip_operation_words.specs.Rows.{Row}
use Rattle.kmip_operation_words.specs.Calls.{row_in}
use Rattle.kmip_operation_words.specs.Forms.{form}
use Rattle.kmip_operation_words.specs.Table.{calls}

-- the name of a call, what is wrong with its words, and its form
abbrev pub with_form : Row → List ℕ → List ℕ
with_form row wrong = row.name ++ (codes ": " ++ (wrong ++ (codes "; its form is: " ++ form row)))

-- why words that begin with the name of a call are none, and others
abbrev pub IsWrong : Option Row → List ℕ → Type 0
IsWrong (Some row) text = (wrong : List ℕ) × (text ≡ with_form row wrong)
IsWrong None text = text ≡ codes "the first word is the name of no call"

-- why words are no call
abbrev pub IsRefusal : List (List ℕ) → List ℕ → Type 0
IsRefusal [] text = text ≡ codes "there are no words"
IsRefusal (name ∷ words) text = IsWrong (row_in calls name) text
