-- What the words of the command line ask for.
use Rattle.std.specs.Prelude.{ℕ, ◌==◌, List, [], ◌∷◌, false, Option, Some, None, if◌then◌else◌, codes, bytes_eq}
use Rattle.std.specs.Option.{option_map}
use Rattle.kmip_client.specs.Client.{credential_for}
use Rattle.kmip_types.specs.declared.auth.CredentialType.{CredentialType}
use Rattle.kmip_words.specs.Values.{number_of}
use Rattle.kmip_words.specs.Options.{Given, option_given, given_after}
use Rattle.kmip_caller.specs.declared.command.Order.{Order}
use Rattle.kmip_caller.specs.declared.command.Command.{Command}
use Rattle.kmip_caller.specs.declared.command.Command.TheVariants.{Help, Version, Grammar, Operations, Make}

abbrev pub first_of : Option (List ℕ) → Option (List ℕ) → Option (List ℕ)
first_of (Some text) second = Some text
first_of None second = second

abbrev pub order_with : Option CredentialType → Option ℕ → Option (List ℕ) → List (List ℕ) → Order
order_with credential limit file words =
    record {
      settings = record { credential = credential; limit = limit; buffered = false };
      file = file;
      words = words;
    }

-- the most bytes of a response, its head counted: `limit=0` sets no limit
abbrev pub limit_of : ℕ → Option ℕ
limit_of limit = if limit == 0 then None else Some limit

-- and without `limit=N` it is 1 MiB
abbrev pub default_limit : Option ℕ
default_limit = Some 1048576

abbrev pub order_numbered : Option CredentialType → Option ℕ → Option (List ℕ) → List (List ℕ) →
    Option Order
order_numbered credential (Some limit) file words =
    Some (order_with credential (limit_of limit) file words)
order_numbered credential None file words = None

abbrev pub order_limited : Option CredentialType → Option (List ℕ) → Option (List ℕ) →
    List (List ℕ) → Option Order
order_limited credential None file words = Some (order_with credential default_limit file words)
order_limited credential (Some limit) file words =
    order_numbered credential (number_of limit) file words

-- `[user=U] [password=P] [limit=N] [record=FILE] CALL`: each option at most once and in this order,
-- and `password=P` only after `user=U`; without it the password is that of the environment
unfoldable pub order_of : Option (List ℕ) → List (List ℕ) → Option Order
order_of environment words =
    let user : Given = option_given (codes "user=") words in
    let password : Given = given_after user.value (codes "password=") user.rest in
    let limit : Given = option_given (codes "limit=") password.rest in
    let file : Given = option_given (codes "record=") limit.rest in
    order_limited (credential_for user.value (first_of password.value environment)) limit.value
    file.value file.rest

abbrev pub one_word : List ℕ → Option Command → Option Command
one_word word other =
    if bytes_eq word (codes "--help") then Some Help
    else if bytes_eq word (codes "--version") then Some Version
    else if bytes_eq word (codes "--grammar") then Some Grammar
    else if bytes_eq word (codes "--operations") then Some Operations
    else other

-- the command of the words after the program's name
abbrev pub command_of : Option (List ℕ) → List (List ℕ) → Option Command
command_of environment (word ∷ []) =
    one_word word (option_map Make (order_of environment (word ∷ [])))
command_of environment words = option_map Make (order_of environment words)
