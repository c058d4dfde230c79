-- What the value of an option is: absent where the option is not given, and none where the value is
-- not one of the option's.
use Rattle.std.specs.Prelude.{ℕ, ℤ, List, Option, Some, None}
use Rattle.std.specs.Option.{option_map}
use Rattle.kmip_request_words.specs.Values.{int_of, long_of, word_text}

-- a text
abbrev pub text_given : Option (List ℕ) → Option (Option (List ℕ))
text_given None = Some None
text_given (Some value) = option_map Some (word_text value)

-- a date, in seconds since 1970-01-01 UTC
abbrev pub date_given : Option (List ℕ) → Option (Option ℕ)
date_given None = Some None
date_given (Some value) = option_map Some (long_of value)

-- a number
abbrev pub number_given : Option (List ℕ) → Option (Option ℤ)
number_given None = Some None
number_given (Some value) = option_map Some (int_of value)
