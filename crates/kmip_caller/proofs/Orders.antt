-- The options of a call, one after the other.
use Rattle.std.proofs.Common.{◌≡◌, ℕ, List, Option, Some, None, codes, refl, sym}
use Rattle.kmip_client.specs.Client.{credential_for}
use Rattle.kmip_types.specs.declared.auth.CredentialType.{CredentialType}
use Rattle.kmip_words.specs.Values.{number_of}
use Rattle.kmip_words.specs.Options.{option_given, given_after}
use Rattle.kmip_caller.specs.TreeWords.{given_or, payload_words, optioned_words}
use Rattle.kmip_caller.specs.Commands.{first_of, limit_of, default_limit, order_with, order_limited, order_of}

pub order_of_is : (environment : Option (List ℕ)) (words : List (List ℕ))
    (user password limit file first : Option (List ℕ))
    (after_user after_password after_limit rest : List (List ℕ)) →
    user ≡ (option_given (codes "user=") words).value → after_user ≡ (option_given (codes "user=") words).rest →
    password ≡ (given_after user (codes "password=") after_user).value
    → after_password ≡ (given_after user (codes "password=") after_user).rest →
    limit ≡ (option_given (codes "limit=") after_password).value
    → after_limit ≡ (option_given (codes "limit=") after_password).rest →
    file ≡ (option_given (codes "record=") after_limit).value
    → rest ≡ (option_given (codes "record=") after_limit).rest
    → first ≡ first_of password environment →
    order_of environment words ≡ order_limited (credential_for user first) limit file rest
unfolding order_of
order_of_is environment words user password limit file first after_user after_password after_limit rest u ur p pr l lr f fr first_is = rw (first_is, fr, f, lr, l, pr, p, ur, u) refl

pub with_limit : (credential : Option CredentialType) (limit file : Option (List ℕ))
    (words : List (List ℕ)) (word : List ℕ) (n : ℕ) → limit ≡ Some word → Some n ≡ number_of word →
    order_limited credential limit file words ≡ Some (order_with credential (limit_of n) file words)
with_limit credential limit file words word n is number = rw (is, sym number) refl

pub with_bad_limit : (credential : Option CredentialType) (limit file : Option (List ℕ))
    (words : List (List ℕ)) (word : List ℕ) → limit ≡ Some word → None ≡ number_of word →
    order_limited credential limit file words ≡ None
with_bad_limit credential limit file words word is number = rw (is, sym number) refl

pub with_no_limit : (credential : Option CredentialType) (limit file : Option (List ℕ))
    (words : List (List ℕ)) → limit ≡ None →
    order_limited credential limit file words ≡ Some (order_with credential default_limit file words)
with_no_limit credential limit file words is = rw is refl

-- the options of an operation
pub optioned_words_are : (name : List ℕ) (words : List (List ℕ)) (first hex version : Option (List ℕ))
    (after_first after_hex rest : List (List ℕ)) →
    first ≡ (option_given (codes "version=") words).value
    → after_first ≡ (option_given (codes "version=") words).rest →
    hex ≡ (option_given (codes "item-id=") after_first).value
    → after_hex ≡ (option_given (codes "item-id=") after_first).rest →
    version ≡ (given_or first (codes "version=") after_hex).value
    → rest ≡ (given_or first (codes "version=") after_hex).rest →
    payload_words name version hex rest ≡ optioned_words name words
optioned_words_are name words first hex version after_first after_hex rest f fr h hr v vr =
    rw (vr, v, hr, h, fr, f) refl
