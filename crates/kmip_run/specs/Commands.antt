-- What the words of the command line ask for.
use Rattle.std.specs.Prelude.{ℕ, nat_lt, List, [], ◌∷◌, Bool, true, false, Option, Some, None, if◌then◌else◌, codes, bytes_eq}
use Rattle.std.specs.Option.{option_map}
use Rattle.kmip_words.specs.Values.{number_of}
use Rattle.kmip_words.specs.Options.{Given, option_given, given_after}
use Rattle.kmip_run.specs.declared.command.Command.{Command}
use Rattle.kmip_run.specs.declared.command.Command.TheVariants.{Replay, Explain, Make, Audit, Joined}
use Rattle.kmip_run.specs.declared.command.Options.{Options}

-- whether the words left are `diag`; none where they are anything else
abbrev pub diag_of : List (List ℕ) → Option Bool
diag_of [] = Some false
diag_of (word ∷ []) = if bytes_eq word (codes "diag") then Some true else None
diag_of words = None

abbrev pub options_limited : Option (List ℕ) → Option (List ℕ) → Option ℕ → Bool → Option Options
options_limited user password (Some limit) diag =
    Some (record { user = user; password = password; limit = Some limit; diag = diag })
options_limited user password None diag = None

abbrev pub options_with : Option (List ℕ) → Option (List ℕ) → Option (List ℕ) → Option Bool →
    Option Options
options_with user password None (Some diag) =
    Some (record { user = user; password = password; limit = None; diag = diag })
options_with user password (Some limit) (Some diag) =
    options_limited user password (number_of limit) diag
options_with user password limit None = None

-- `[user=U] [password=P] [limit=N] [diag]`, each at most once and in this order, and a password
-- only after a user
unfoldable pub options_of : List (List ℕ) → Option Options
options_of words =
    let user : Given = option_given (codes "user=") words in
    let password : Given = given_after user.value (codes "password=") user.rest in
    let limit : Given = option_given (codes "limit=") password.rest in
    options_with user.value password.value limit.value (diag_of limit.rest)

-- `replay` and `joined` take these options
abbrev pub replay_of : List (List ℕ) → Option Command
replay_of words = option_map Replay (options_of words)

abbrev pub joined_of : List (List ℕ) → Option Command
joined_of words = option_map Joined (options_of words)

-- `explain` takes no more words
abbrev pub explain_of : List (List ℕ) → Option Command
explain_of [] = Some Explain
explain_of words = None

-- `make` takes one word: a decimal number without leading zeros, at most 100000
abbrev pub make_number : Option ℕ → Option Command
make_number (Some count) = if nat_lt 100000 count then None else Some (Make count)
make_number None = None

abbrev pub make_of : List (List ℕ) → Option Command
make_of (count ∷ []) = make_number (number_of count)
make_of words = None

-- `audit` takes no more words
abbrev pub audit_of : List (List ℕ) → Option Command
audit_of [] = Some Audit
audit_of words = None

-- the command of the words after the program's name
unfoldable pub command_of : List (List ℕ) → Option Command
command_of [] = None
command_of (name ∷ words) =
    if bytes_eq name (codes "replay") then replay_of words
    else if bytes_eq name (codes "explain") then explain_of words
    else if bytes_eq name (codes "make") then make_of words
    else if bytes_eq name (codes "audit") then audit_of words
    else if bytes_eq name (codes "joined") then joined_of words
    else None
