-- The command of the words, and its options.
use Rattle.std.proofs.Common.{◌<◌, bytes_eq, codes, ◌≡◌, ◌≤◌, ℕ, List, [], ◌∷◌, length, drop, get_or, Option, Some, None, refl, ap, sym, ◌∙◌, arith, Bool, true, false, cond}
use Rattle.std.proofs.lemmas.Slice.Eq.{bytes_eq-Decides}
use Rattle.kmip_words.specs.Values.{number_of}
use Rattle.kmip_words.specs.Options.{option_given, given_after}
use Rattle.kmip_words.proofs.NamedValues.{first_and_rest}
use Rattle.kmip_run.specs.Commands.{diag_of, options_with, options_of, replay_of, explain_of, make_of, audit_of, joined_of, command_of}

-- the command of words that are there
command_of_first : (words : List (List ℕ)) (name : List ℕ) → 1 ≤ length words → name ≡ get_or words 0 name →
    command_of words ≡ cond (bytes_eq name (codes "replay")) (replay_of (drop 1 words))
    (cond (bytes_eq name (codes "explain")) (explain_of (drop 1 words))
    (cond (bytes_eq name (codes "make")) (make_of (drop 1 words))
    (cond (bytes_eq name (codes "audit")) (audit_of (drop 1 words))
    (cond (bytes_eq name (codes "joined")) (joined_of (drop 1 words)) None))))
unfolding command_of
command_of_first words name some at =
    ap command_of (first_and_rest words name some ∙ ap (λ (w : List ℕ). w ∷ drop 1 words) (sym at))

named : {A : Type 0} (name word : List ℕ) (x y : A) → name ≡ word → cond (bytes_eq name word) x y ≡ x
named name word x y is = ap (λ (b : Bool). cond b x y) ((bytes_eq-Decides name word).1 is)

not_named : {A : Type 0} (name word : List ℕ) (x y : A) → (name ≡ word → ⊥) → cond (bytes_eq name word) x y ≡ y
not_named name word x y other = elim (bytes_eq name word) as (λ b. bytes_eq name word ≡ b → cond b x y ≡ y) [
  | true ↦ λ e. absurd (other ((bytes_eq-Decides name word).0 e))
  | false ↦ λ e. refl
] refl

pub command_of_replay : (words : List (List ℕ)) (name : List ℕ) → 1 ≤ length words
    → name ≡ get_or words 0 name → name ≡ codes "replay"
    → command_of words ≡ replay_of (drop 1 words)
command_of_replay words name some at is = command_of_first words name some at ∙ named name (codes "replay") _ _ is

pub command_of_explain : (words : List (List ℕ)) (name : List ℕ) → 1 ≤ length words
    → name ≡ get_or words 0 name → (name ≡ codes "replay" → ⊥) → name ≡ codes "explain"
    → command_of words ≡ explain_of (drop 1 words)
command_of_explain words name some at not_replay is =
    command_of_first words name some at ∙ not_named name (codes "replay") _ _ not_replay
    ∙ named name (codes "explain") _ _ is

pub command_of_make : (words : List (List ℕ)) (name : List ℕ) → 1 ≤ length words
    → name ≡ get_or words 0 name → (name ≡ codes "replay" → ⊥) → (name ≡ codes "explain" → ⊥)
    → name ≡ codes "make" → command_of words ≡ make_of (drop 1 words)
command_of_make words name some at not_replay not_explain is =
    command_of_first words name some at ∙ not_named name (codes "replay") _ _ not_replay
    ∙ not_named name (codes "explain") _ _ not_explain ∙ named name (codes "make") _ _ is

pub command_of_audit : (words : List (List ℕ)) (name : List ℕ) → 1 ≤ length words
    → name ≡ get_or words 0 name → (name ≡ codes "replay" → ⊥) → (name ≡ codes "explain" → ⊥)
    → (name ≡ codes "make" → ⊥) → name ≡ codes "audit" → command_of words ≡ audit_of (drop 1 words)
command_of_audit words name some at not_replay not_explain not_make is =
    command_of_first words name some at ∙ not_named name (codes "replay") _ _ not_replay
    ∙ not_named name (codes "explain") _ _ not_explain
    ∙ not_named name (codes "make") _ _ not_make ∙ named name (codes "audit") _ _ is

-- words that begin with none of the four above
command_of_later : (words : List (List ℕ)) (name : List ℕ) → 1 ≤ length words
    → name ≡ get_or words 0 name → (name ≡ codes "replay" → ⊥) → (name ≡ codes "explain" → ⊥)
    → (name ≡ codes "make" → ⊥) → (name ≡ codes "audit" → ⊥) →
    command_of words ≡ cond (bytes_eq name (codes "joined")) (joined_of (drop 1 words)) None
command_of_later words name some at not_replay not_explain not_make not_audit =
    command_of_first words name some at ∙ not_named name (codes "replay") _ _ not_replay
    ∙ not_named name (codes "explain") _ _ not_explain
    ∙ not_named name (codes "make") _ _ not_make ∙ not_named name (codes "audit") _ _ not_audit

pub command_of_joined : (words : List (List ℕ)) (name : List ℕ) → 1 ≤ length words
    → name ≡ get_or words 0 name → (name ≡ codes "replay" → ⊥) → (name ≡ codes "explain" → ⊥)
    → (name ≡ codes "make" → ⊥) → (name ≡ codes "audit" → ⊥) → name ≡ codes "joined" →
    command_of words ≡ joined_of (drop 1 words)
command_of_joined words name some at not_replay not_explain not_make not_audit is =
    command_of_later words name some at not_replay not_explain not_make not_audit ∙ named name (codes "joined") _ _ is

pub command_of_other : (words : List (List ℕ)) (name : List ℕ) → 1 ≤ length words
    → name ≡ get_or words 0 name → (name ≡ codes "replay" → ⊥) → (name ≡ codes "explain" → ⊥)
    → (name ≡ codes "make" → ⊥) → (name ≡ codes "audit" → ⊥) → (name ≡ codes "joined" → ⊥) →
    command_of words ≡ None
command_of_other words name some at not_replay not_explain not_make not_audit not_joined =
    command_of_later words name some at not_replay not_explain not_make not_audit
    ∙ not_named name (codes "joined") _ _ not_joined

pub command_of_none : (words : List (List ℕ)) → length words < 1 → command_of words ≡ None
unfolding command_of
command_of_none [] none = refl
command_of_none (word ∷ words) none = absurd (omega arith)

-- the options, one after the other
pub options_of_is : (words : List (List ℕ)) (user password limit : Option (List ℕ))
    (after_user after_password rest : List (List ℕ)) (diag : Option Bool) →
    user ≡ (option_given (codes "user=") words).value → after_user ≡ (option_given (codes "user=") words).rest →
    password ≡ (given_after user (codes "password=") after_user).value
    → after_password ≡ (given_after user (codes "password=") after_user).rest →
    limit ≡ (option_given (codes "limit=") after_password).value
    → rest ≡ (option_given (codes "limit=") after_password).rest → diag ≡ diag_of rest →
    options_of words ≡ options_with user password limit diag
unfolding options_of
options_of_is words user password limit after_user after_password rest diag u ur p pr l lr d =
    rw (d, lr, l, pr, p, ur, u) refl

-- words other than `diag` are left over
pub with_more : (user password limit : Option (List ℕ)) (diag : Option Bool) → diag ≡ None
    → options_with user password limit diag ≡ None
with_more user password None diag more = rw more refl
with_more user password (Some limit) diag more = rw more refl

pub with_limit : (user password limit : Option (List ℕ)) (diag : Option Bool) (word : List ℕ)
    (n : ℕ) (told : Bool) → limit ≡ Some word → diag ≡ Some told → Some n ≡ number_of word →
    options_with user password limit diag
    ≡ Some (record { user = user; password = password; limit = Some n; diag = told })
with_limit user password limit diag word n told is last number = rw (is, last, sym number) refl

pub with_bad_limit : (user password limit : Option (List ℕ)) (diag : Option Bool) (word : List ℕ)
    (told : Bool) → limit ≡ Some word → diag ≡ Some told → None ≡ number_of word
    → options_with user password limit diag ≡ None
with_bad_limit user password limit diag word told is last number = rw (is, last, sym number) refl

pub with_no_limit : (user password limit : Option (List ℕ)) (diag : Option Bool) (told : Bool)
    → limit ≡ None → diag ≡ Some told →
    options_with user password limit diag
    ≡ Some (record { user = user; password = password; limit = None; diag = told })
with_no_limit user password limit diag told is last = rw (is, last) refl
