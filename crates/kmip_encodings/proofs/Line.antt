-- A tree's JSON with a line feed after it is a text of the same value.
use Rattle.std.proofs.Common.{◌≡◌, ℕ, ◌≤◌, Bool, true, false, cond, ◌&&◌, List, [], ◌∷◌, ◌++◌, Some, option_and_then, refl, sym, ap, ap₂, ◌∙◌, append_assoc, append-nil}
use Rattle.json.specs.Token.{Token, begin_object, end_object, begin_array, end_array, key, string, number, boolean, null, bad}
use Rattle.json.specs.Word.{ends_word, word}
use Rattle.json.specs.Lex.{Lexeme, token, comma, colon, string_token, lex, between, fresh, punctuate}
use Rattle.json.specs.Print.{escape, quoted, token_text, begins, ends, print_from, IsPrintable, ArePrintable}
use Rattle.json.specs.Json.{max_depth, document, value, if_last}
use Rattle.json.specs.Tree.{json_tokens}
use Rattle.json.proofs.Printed.Strings.{content-escape, lex-escape}
use Rattle.json.proofs.Printed.Numbers.{lex-number, in_word-ended}
use Rattle.json.proofs.Printed.Trees.{ArePrintable-json_tokens}
use Rattle.kmip_wire.specs.Tree.{Tree}
use Rattle.kmip_wire.specs.Bytes.{levels, HasRanges}
use Rattle.kmip_tags.specs.Tags.{ATTRIBUTE_VALUE}
use Rattle.kmip_encodings.specs.Encoding.{json_of, text_at, json_text}
use Rattle.kmip_encodings.proofs.Law.{numbers, text_back}

-- ---- what a token is read as, whatever follows

abbrev lexemes : Token → List Lexeme
lexemes begin_object = token begin_object ∷ []
lexemes end_object = token end_object ∷ []
lexemes begin_array = token begin_array ∷ []
lexemes end_array = token end_array ∷ []
lexemes (key s) = token (string s) ∷ colon ∷ []
lexemes (string s) = token (string s) ∷ []
lexemes (number s) = token (number s) ∷ []
lexemes (boolean b) = token (boolean b) ∷ []
lexemes null = token null ∷ []
lexemes bad = []

quoted_read : (s r : List ℕ) → lex between (quoted s ++ r) ≡ token (string s) ∷ lex between r
unfolding lex
quoted_read s r =
    ap (λ l. lex between (34 ∷ l)) (append_assoc (escape s) (34 ∷ []) r)
    ∙ ap₂ (λ o l. token (string_token o) ∷ l) (content-escape s r) (lex-escape s r)

token_read : (t : Token) (r : List ℕ) → IsPrintable t → (ends t ≡ true → ends_word r ≡ true)
    → lex between (token_text t ++ r) ≡ lexemes t ++ lex between r
unfolding lex word
token_read begin_object r h ended = refl
token_read end_object r h ended = refl
token_read begin_array r h ended = refl
token_read end_array r h ended = refl
token_read (key s) r h ended = ap (lex between) (append_assoc (quoted s) (58 ∷ []) r) ∙ quoted_read s (58 ∷ r)
token_read (string s) r h ended = quoted_read s r
token_read (number s) r h ended = lex-number s r h (ended refl)
token_read (boolean true) r h ended =
    ap₂ (λ b l. token (cond b (boolean true) bad) ∷ l) (ended refl) (in_word-ended r (ended refl))
token_read (boolean false) r h ended =
    ap₂ (λ b l. token (cond b (boolean false) bad) ∷ l) (ended refl) (in_word-ended r (ended refl))
token_read null r h ended =
    ap₂ (λ b l. token (cond b null bad) ∷ l) (ended refl) (in_word-ended r (ended refl))
token_read bad r h ended = absurd h

comma_read : (b : Bool) (r : List ℕ)
    → lex between (cond b (44 ∷ []) [] ++ r) ≡ cond b (comma ∷ []) [] ++ lex between r
unfolding lex
comma_read true r = refl
comma_read false r = refl

-- ---- after a value stands a comma, a closing bracket, the line feed or nothing

ended_before : (ts : List Token) (end : List ℕ) → ends_word end ≡ true → ends_word (print_from true ts ++ end) ≡ true
unfolding print_from
ended_before [] end e = e
ended_before (begin_object ∷ ts) end e = refl
ended_before (end_object ∷ ts) end e = refl
ended_before (begin_array ∷ ts) end e = refl
ended_before (end_array ∷ ts) end e = refl
ended_before (key s ∷ ts) end e = refl
ended_before (string s ∷ ts) end e = refl
ended_before (number s ∷ ts) end e = refl
ended_before (boolean b ∷ ts) end e = refl
ended_before (null ∷ ts) end e = refl
ended_before (bad ∷ ts) end e = refl

all_lexemes : (after : Bool) (ts : List Token) → List Lexeme
all_lexemes after [] = []
all_lexemes after (t ∷ ts) = cond (after && begins t) (comma ∷ []) [] ++ (lexemes t ++ all_lexemes (ends t) ts)

-- the tokens are read as they are printed, before an end that is read as nothing
tokens_read : (after : Bool) (ts : List Token) (end : List ℕ) → ends_word end ≡ true → lex between end ≡ []
    → ArePrintable ts → lex between (print_from after ts ++ end) ≡ all_lexemes after ts
unfolding print_from ArePrintable all_lexemes
tokens_read after [] end e none h = none
tokens_read after (t ∷ ts) end e none h =
    let rest : List ℕ = print_from (ends t) ts in
    let first : List ℕ = cond (after && begins t) (44 ∷ []) [] in
    ap (lex between) (append_assoc first (token_text t ++ rest) end ∙ ap (λ l. first ++ l) (append_assoc (token_text t) rest end))
    ∙ comma_read (after && begins t) (token_text t ++ (rest ++ end))
    ∙ ap (λ l. cond (after && begins t) (comma ∷ []) [] ++ l)
    (token_read t (rest ++ end) h.0 (λ is. ap (λ b. ends_word (print_from b ts ++ end)) is ∙ ended_before ts end e)
    ∙ ap (λ l. lexemes t ++ l) (tokens_read (ends t) ts end e none h.1))

feed_read : lex between (10 ∷ []) ≡ []
unfolding lex
feed_read = refl

nothing_read : lex between [] ≡ []
unfolding lex
nothing_read = refl

pub line_back : (t : Tree) → HasRanges t → levels t ≤ 64 → document (json_text t ++ 10 ∷ []) ≡ Some (json_of t)
unfolding text_at
line_back t h d =
    let ts : List Token = json_tokens (json_of t) in
    let printable = ArePrintable-json_tokens (json_of t) (numbers t ATTRIBUTE_VALUE h) in
    let same : lex between (print_from false ts ++ 10 ∷ []) ≡ lex between (print_from false ts) =
    tokens_read false ts (10 ∷ []) refl feed_read printable
    ∙ sym (ap (lex between) (sym (append-nil (print_from false ts))) ∙ tokens_read false ts [] refl nothing_read printable) in
    ap (λ l. option_and_then (λ p. if_last p.0 p.1) (value max_depth (punctuate fresh l))) same ∙ text_back t h d
