-- A record reads back as the call of its words and its response.
use Rattle.std.proofs.Common.{◌≡◌, ℕ, ◌/◌, ◌==◌, ℤ, List, [], ◌∷◌, ◌++◌, length, slice_index, refl, ◌∙◌, ap, sym, subst, arith, append_assoc, Bool, true, false, not, ◌&&◌, ◌||◌, if◌then◌else◌, cond, nat_eq, Option, Some, None, IsTrue, codes, bytes_eq}
use Rattle.std.proofs.lemmas.Bool.{and_parts, eqb-true}
use Rattle.std.proofs.lemmas.Bool.Decides.{nat_tests}
use Rattle.std.proofs.lemmas.List.Elements.{All-cons, All-nil}
use Rattle.std.proofs.lemmas.List.Folds.{list_any_none}
use Rattle.std.proofs.lemmas.List.Splits.{slice_split_none, slice_split_at}
use Rattle.std.proofs.lemmas.Str.{IsUtf8-from_is_utf8, is_utf8-from_IsUtf8, IsUtf8-append, IsUtf8-take, IsUtf8-from_ascii, IsCharBoundary-at_seam}
use Rattle.std.proofs.lemmas.Slice.Eq.{bytes_eq-Decides}
use Rattle.std.proofs.lemmas.Str.Ascii.{IsAscii-nil, IsAscii-cons}
use Rattle.std.proofs.Math.Seq.{take-append_seam}
use Rattle.std.specs.List.{All, AllPass, list_any, slice_split}
use Rattle.std.specs.Str.{IsAscii, IsUtf8, is_utf8}
use Rattle.hex.specs.Hex.{IsBytes, encode_with, encode_upper, upper_digits, is_hex_digit}
use Rattle.hex.proofs.HexLemmas.{IsAscii-encode_with, decode_of-encode_upper, decode_of-ok}
use Rattle.kmip_request.specs.declared.payload.RequestPayload.{RequestPayload}
use Rattle.kmip_words.specs.Words.{parts_between, has_empty_part, words_of}
use Rattle.kmip_words.specs.Values.{int_of, bytes_of, word_text}
use Rattle.kmip_words.specs.Asked.{asked_in}
use Rattle.kmip_words.specs.Refusals.{why_refused}
use Rattle.kmip_words.specs.Calls.{with_response, call_of_one, call_of_two, call_of_three, recorded_of, call_from, call_of, call_in, locate_of, attributes_of, create_aes_of, plain_call, or_request, unless_refused, typed_call}
use Rattle.kmip_words.specs.Exchange.{request_asked, or_empty}
use Rattle.kmip_words.specs.declared.call.Call.{Call}
use Rattle.kmip_words.specs.declared.call.Recorded.{Recorded}
use Rattle.kmip_caller.specs.Record.{with_spaces, response_word, record_line, is_call, has_byte, is_script_word, are_script_words, call_read, is_recordable, is_unscripted, raw_words, sends, is_raw, ReadsBack}

-- ---- tests

not_true : (b : Bool) → not b ≡ true → b ≡ false
not_true true h = absurd (cc)
not_true false h = refl

or_left : (a b : Bool) → (a || b) ≡ false → a ≡ false
or_left true b h = absurd (cc)
or_left false b h = refl

or_right : (a b : Bool) → (a || b) ≡ false → b ≡ false
or_right true b h = absurd (cc)
or_right false b h = h

and_false : (a : Bool) → (a && false) ≡ false
and_false true = refl
and_false false = refl

none : {X : Type 0} (p : X → Bool) (xs : List X) → list_any p xs ≡ false → All (λ x. p x ≡ false) xs
none p [] h = All-nil (λ x. p x ≡ false)
none p (x ∷ xs) h = All-cons (λ y. p y ≡ false) x xs (or_left (p x) (list_any p xs) h)
    (none p xs (or_right (p x) (list_any p xs) h))

any_append : {X : Type 0} (p : X → Bool) (xs ys : List X) → list_any p xs ≡ false
    → list_any p ys ≡ false → list_any p (xs ++ ys) ≡ false
any_append p [] ys a b = b
any_append p (x ∷ xs) ys a b = rw (or_left (p x) (list_any p xs) a)
    (any_append p xs ys (or_right (p x) (list_any p xs) a) b)

-- ---- the words of a script

record IsWord (word : List ℕ) : Type 0 where
  pub some : (length word == 0) ≡ false
  pub no_space : has_byte 32 word ≡ false
  pub no_line_feed : has_byte 10 word ≡ false

is_word : (word : List ℕ) → is_script_word word ≡ true → IsWord word
is_word word good =
    let first = and_parts (not (length word == 0)) (not (has_byte 32 word) && not (has_byte 10 word)) good in
    let second = and_parts (not (has_byte 32 word)) (not (has_byte 10 word)) first.1 in
    record { some = not_true _ first.0; no_space = not_true _ second.0; no_line_feed = not_true _ second.1 }

-- A word that may stand last: not empty, and with no space.
record IsLast (last : List ℕ) : Type 0 where
  pub some : (length last == 0) ≡ false
  pub no_space : has_byte 32 last ≡ false

parts : (words : List (List ℕ)) (last : List ℕ) → are_script_words words ≡ true → IsLast last
    → parts_between 32 (with_spaces words ++ last) ≡ words ++ (last ∷ [])
parts [] last good it = slice_split_none (λ c. c == 32) last (none (λ c. c == 32) last it.no_space)
parts (word ∷ words) last good it =
    let both = and_parts (is_script_word word) (are_script_words words) good in
    let here = is_word word both.0 in
    ap (λ l. slice_split (λ c. c == 32) l) (append_assoc word (32 ∷ with_spaces words) last)
    ∙ slice_split_at (λ c. c == 32) word 32 (with_spaces words ++ last) (none (λ c. c == 32) word here.no_space) refl
    ∙ ap (λ l. word ∷ l) (parts words last both.1 it)

no_empty : (words : List (List ℕ)) (last : List ℕ) → are_script_words words ≡ true → IsLast last
    → has_empty_part (words ++ (last ∷ [])) ≡ false
no_empty [] last good it = rw it.some refl
no_empty (word ∷ words) last good it =
    let both = and_parts (is_script_word word) (are_script_words words) good in
    rw (is_word word both.0).some (no_empty words last both.1 it)

choose : {A : Type 0} (b : Bool) (x y : A) → b ≡ false → cond b x y ≡ y
choose true x y h = absurd (cc)
choose false x y h = refl

words_back : (words : List (List ℕ)) (last : List ℕ) → are_script_words words ≡ true → IsLast last
    → words_of (with_spaces words ++ last) ≡ Some (words ++ (last ∷ []))
words_back words last good it =
    let same = parts words last good it in
    let some : has_empty_part (parts_between 32 (with_spaces words ++ last)) ≡ false =
    ap has_empty_part same ∙ no_empty words last good it in
    choose (has_empty_part (parts_between 32 (with_spaces words ++ last))) None
    (Some (parts_between 32 (with_spaces words ++ last))) some ∙ ap Some same

by_count : (words : List (List ℕ)) (last : List ℕ)
    → recorded_of (words ++ (last ∷ [])) ≡ with_response (call_in words) (bytes_of last)
by_count [] last = refl
by_count (a ∷ []) last = refl
by_count (a ∷ b ∷ []) last = refl
by_count (a ∷ b ∷ c ∷ []) last = refl
by_count (a ∷ b ∷ c ∷ d ∷ []) last = refl
by_count (a ∷ b ∷ c ∷ d ∷ e ∷ []) last = refl
by_count (a ∷ b ∷ c ∷ d ∷ e ∷ f ∷ more) last = refl

reads : (words : List (List ℕ)) (last : List ℕ) → are_script_words words ≡ true → IsLast last
    → is_utf8 (with_spaces words ++ last) ≡ true →
    call_of (with_spaces words ++ last) ≡ with_response (call_in words) (bytes_of last)
unfolding call_of
reads words last good it utf8 = rw utf8 (ap call_from (words_back words last good it) ∙ by_count words last)

utf8_of : (line : List ℕ) → is_call (call_of line) ≡ true → is_utf8 line ≡ true
unfolding call_of
utf8_of line h = elim (is_utf8 line) as (λ b. is_call (cond b (call_from (words_of line)) None) ≡ true → b ≡ true) [
  | true ↦ λ e. refl
  | false ↦ λ e. e
] h

-- ---- a response as a word

digits_ascii : IsAscii upper_digits
digits_ascii =
    IsAscii-cons 48 (codes "123456789ABCDEF") (omega arith)
    (IsAscii-cons 49 (codes "23456789ABCDEF") (omega arith)
    (IsAscii-cons 50 (codes "3456789ABCDEF") (omega arith)
    (IsAscii-cons 51 (codes "456789ABCDEF") (omega arith)
    (IsAscii-cons 52 (codes "56789ABCDEF") (omega arith)
    (IsAscii-cons 53 (codes "6789ABCDEF") (omega arith)
    (IsAscii-cons 54 (codes "789ABCDEF") (omega arith)
    (IsAscii-cons 55 (codes "89ABCDEF") (omega arith)
    (IsAscii-cons 56 (codes "9ABCDEF") (omega arith)
    (IsAscii-cons 57 (codes "ABCDEF") (omega arith)
    (IsAscii-cons 65 (codes "BCDEF") (omega arith)
    (IsAscii-cons 66 (codes "CDEF") (omega arith)
    (IsAscii-cons 67 (codes "DEF") (omega arith)
    (IsAscii-cons 68 (codes "EF") (omega arith)
    (IsAscii-cons 69 (codes "F") (omega arith)
    (IsAscii-cons 70 [] (omega arith) IsAscii-nil)))))))))))))))

word_ascii : (response : List ℕ) → IsAscii (response_word response)
word_ascii [] = IsAscii-cons 45 [] (omega arith) IsAscii-nil
word_ascii (byte ∷ response) = IsAscii-encode_with upper_digits (byte ∷ response) digits_ascii

hex_is_not : (c d : ℕ) → is_hex_digit d ≡ false → is_hex_digit c ≡ true → (c == d) ≡ false
hex_is_not c d other hex = elim (c == d) as (λ b. (c == d) ≡ b → b ≡ false) [
  | true ↦ λ e.
      let is : c ≡ d = eqb-true c d e in
      let w : is_hex_digit d ≡ true = subst (λ x. is_hex_digit x ≡ true) is hex in
      absurd (cc)
  | false ↦ λ e. refl
] refl

hex_has_not : (xs : List ℕ) (d : ℕ) → is_hex_digit d ≡ false → AllPass is_hex_digit xs → has_byte d xs ≡ false
hex_has_not xs d other all = list_any_none (λ c. c == d) xs (λ k default lt. hex_is_not _ d other (all k default lt))

word_has_not : (response : List ℕ) (d : ℕ) → is_hex_digit d ≡ false → (45 == d) ≡ false
    → IsBytes response → has_byte d (response_word response) ≡ false
word_has_not [] d other dash bytes = rw dash refl
word_has_not (byte ∷ response) d other dash bytes =
    hex_has_not (encode_upper (byte ∷ response)) d other
    (decode_of-ok (encode_upper (byte ∷ response)) (byte ∷ response)
    (decode_of-encode_upper (byte ∷ response) bytes)).1

word_last : (response : List ℕ) → IsBytes response → IsLast (response_word response)
unfolding encode_with
word_last [] bytes = record { some = refl; no_space = refl }
word_last (byte ∷ response) bytes = record {
  some = grind (arith, nat_tests);
  no_space = word_has_not (byte ∷ response) 32 refl refl bytes;
}

not_dash : (byte : ℕ) (response : List ℕ) → bytes_eq (encode_upper (byte ∷ response)) (codes "-") ≡ false
unfolding encode_with
not_dash byte response = and_false (nat_eq (slice_index upper_digits (byte / 16)) 45)

bytes_back : (response : List ℕ) → IsBytes response → bytes_of (response_word response) ≡ Some response
unfolding bytes_of
bytes_back [] bytes = refl
bytes_back (byte ∷ response) bytes =
    rw (
      not_dash byte response,
      (word_last (byte ∷ response) bytes).some,
      decode_of-encode_upper (byte ∷ response) bytes,
    ) refl

dash_back : bytes_of (codes "-") ≡ Some []
unfolding bytes_of
dash_back = refl

-- ---- a record

some_call : (call : Option Call) → is_call (with_response call (Some [])) ≡ true → (it : Call) × (call ≡ Some it)
some_call (Some call) h = (call, refl)
some_call None h = absurd (cc)

with_both : (call : Option Call) (response : Option (List ℕ)) (it : Call) (bytes : List ℕ)
    → call ≡ Some it → response ≡ Some bytes
    → with_response call response ≡ Some (record { call = it; response = bytes })
with_both call response it bytes is back = rw (is, back) refl

front_utf8 : (words : List (List ℕ)) → is_utf8 (with_spaces words ++ codes "-") ≡ true → IsUtf8 (with_spaces words)
front_utf8 words h =
    let whole = IsUtf8-from_is_utf8 (with_spaces words ++ codes "-") h in
    let seam = IsCharBoundary-at_seam (with_spaces words ++ codes "-") (with_spaces words)
    (codes "-") refl (IsUtf8-from_ascii (codes "-") (word_ascii [])) in
    subst IsUtf8 (take-append_seam (with_spaces words) (codes "-"))
    (IsUtf8-take (with_spaces words ++ codes "-") (length (with_spaces words)) whole seam)

spaces_have_none : (words : List (List ℕ)) → are_script_words words ≡ true → has_byte 10 (with_spaces words) ≡ false
spaces_have_none [] good = refl
spaces_have_none (word ∷ words) good =
    let both = and_parts (is_script_word word) (are_script_words words) good in
    any_append (λ c. c == 10) word (32 ∷ with_spaces words) (is_word word both.0).no_line_feed
    (spaces_have_none words both.1)

line_by : (good : Bool) (call : Option Recorded) → is_call (if good then call else None) ≡ true
    → (good ≡ true) × (is_call call ≡ true)
line_by true call is = (refl, is)
line_by false call is = absurd (cc)

pub back : (words : List (List ℕ)) (response : List ℕ) → IsTrue (is_recordable words)
    → IsBytes response → ReadsBack words response
back words response recordable bytes =
    let both = line_by (are_script_words words) (call_of (record_line words [])) recordable in
    let dash : IsLast (codes "-") = record { some = refl; no_space = refl } in
    let utf8 : is_utf8 (with_spaces words ++ codes "-") ≡ true = utf8_of (record_line words []) both.1 in
    let first : call_of (record_line words [])
    ≡ with_response (call_in words) (bytes_of (codes "-")) =
    reads words (codes "-") both.0 dash utf8 in
    let it = some_call (call_in words)
    (sym (ap is_call (first ∙ ap (with_response (call_in words)) dash_back)) ∙ both.1) in
    let line_utf8 : is_utf8 (record_line words response) ≡ true =
    is_utf8-from_IsUtf8 (record_line words response)
    (IsUtf8-append (with_spaces words) (response_word response) (front_utf8 words utf8)
    (IsUtf8-from_ascii (response_word response) (word_ascii response))) in
    record {
      one_line = any_append (λ c. c == 10) (with_spaces words) (response_word response)
          (spaces_have_none words both.0) (word_has_not response 10 refl refl bytes);
      call = it.0;
      call_is = it.1;
      back = reads words (response_word response) both.0 (word_last response bytes) line_utf8
          ∙ with_both (call_in words) (bytes_of (response_word response)) it.0 response it.1
          (bytes_back response bytes);
    }

-- ---- the line of a request's bytes

sent_by : (request : List ℕ) (read : Option Recorded) → sends request read ≡ true
    → (it : Recorded) × (read ≡ Some it) × (or_empty (request_asked it.call None).message ≡ request)
sent_by request (Some it) sent =
    (it, refl, (bytes_eq-Decides (or_empty (request_asked it.call None).message) request).0 sent)
sent_by request None sent = absurd (cc)

is_call_by : (read : Option Recorded) (it : Recorded) → read ≡ Some it → is_call read ≡ true
is_call_by read it is = rw is refl

chosen : (good : Bool) (read : Option Recorded) (it : Recorded)
    → (if good then read else None) ≡ Some it → read ≡ Some it
chosen true read it is = is
chosen false read it is = absurd (cc)

same_read : (read : Option Recorded) (a b : Recorded) → read ≡ Some a → read ≡ Some b → a ≡ b
same_read read a b first second = cc

same_call : (words : List (List ℕ)) (a b : Call) → call_in words ≡ Some a → call_in words ≡ Some b → a ≡ b
same_call words a b first second = cc

no_bytes : IsBytes []
no_bytes i = omega arith

pub raw : (request response : List ℕ) → IsTrue (is_raw request) → IsBytes response
    → (line : ReadsBack (raw_words request) response)
    × (or_empty (request_asked line.call None).message ≡ request)
raw request response is bytes =
    let words : List (List ℕ) = raw_words request in
    let sent = sent_by request (call_read words) is in
    let recordable : is_recordable words ≡ true = is_call_by (call_read words) sent.0 sent.1 in
    let empty : ReadsBack words [] = back words [] recordable no_bytes in
    let line : ReadsBack words response = back words response recordable bytes in
    let of_empty : Recorded = record { call = empty.call; response = [] } in
    let read : sent.0 ≡ of_empty =
    same_read (call_of (record_line words [])) sent.0 of_empty
    (chosen (are_script_words words) (call_of (record_line words [])) sent.0 sent.1) empty.back in
    let same : sent.0.call ≡ line.call =
    ap (λ (r : Recorded). r.call) read
    ∙ same_call words empty.call line.call empty.call_is line.call_is in (
      line,
      ap (λ (c : Call). or_empty (request_asked c None).message) (sym same) ∙ sent.2,
    )

-- ---- the call of words that a script has

-- a script has none of these calls
unscripted_of : {call other : Call} → Some other ≡ Some call → is_unscripted other ≡ true → is_unscripted call ≡ true
unscripted_of {call = call} {other = other} same un =
    let e : other ≡ call = cc in subst (λ c. is_unscripted c ≡ true) e un

located : (name : Option (List ℕ)) (call : Call) → locate_of name ≡ Some call → is_unscripted call ≡ true
located (Some name) call is = unscripted_of is refl
located None call is = absurd (cc)

shown : (id : Option (List ℕ)) (call : Call) → attributes_of id ≡ Some call → is_unscripted call ≡ true
shown (Some id) call is = unscripted_of is refl
shown None call is = absurd (cc)

made_aes : (size : Option ℤ) (name : Option (List ℕ)) (call : Call)
    → create_aes_of size name ≡ Some call → is_unscripted call ≡ true
made_aes (Some size) (Some name) call is = unscripted_of is refl
made_aes (Some size) None call is = absurd (cc)
made_aes None name call is = absurd (cc)

-- where a name is that of a call that a script has not, the call is none that a script has
unless : (b : Bool) (first second : Option Call) (call : Call)
    → (first ≡ Some call → is_unscripted call ≡ true) → is_unscripted call ≡ false
    → cond b first second ≡ Some call → second ≡ Some call
unless true first second call un scripted is = let w : is_unscripted call ≡ true = un is in absurd (cc)
unless false first second call un scripted is = is

plain_in : (words : List (List ℕ)) (call : Call) → plain_call words ≡ Some call
    → is_unscripted call ≡ false → call_in words ≡ Some call
plain_in [] call is scripted = is
plain_in (name ∷ []) call is scripted =
    unless (bytes_eq name (codes "discover")) _ (call_of_one name) call
    (λ e. unscripted_of e refl) scripted is
plain_in (name ∷ first ∷ []) call is scripted =
    unless (bytes_eq name (codes "attributes")) (attributes_of (word_text first))
    (call_of_two name first) call (shown (word_text first) call) scripted
    (unless (bytes_eq name (codes "locate")) (locate_of (word_text first)) _ call
    (located (word_text first) call) scripted is)
plain_in (name ∷ first ∷ second ∷ []) call is scripted =
    unless (bytes_eq name (codes "create-aes")) (create_aes_of (int_of first) (word_text second))
    (call_of_three name first second) call
    (made_aes (int_of first) (word_text second) call) scripted is
plain_in (name ∷ first ∷ second ∷ third ∷ []) call is scripted = is
plain_in (name ∷ first ∷ second ∷ third ∷ fourth ∷ more) call is scripted = is

plain_by : (plain : Option Call) (request : Option RequestPayload) (call : Call)
    → or_request plain request ≡ Some call → is_unscripted call ≡ false → plain ≡ Some call
plain_by (Some other) request call is scripted = is
plain_by None (Some payload) call is scripted = let w : is_unscripted call ≡ true = unscripted_of is refl in absurd (cc)
plain_by None None call is scripted = is

-- the call of words that are not refused
taken_by : (refusal : Option (List ℕ)) (made : Option Call) (call : Call)
    → unless_refused refusal made ≡ Some call → made ≡ Some call
taken_by (Some text) made call is = absurd (cc)
taken_by None made call is = is

pub typed : (words : List (List ℕ)) (call : Call) → typed_call words ≡ Some call
    → is_unscripted call ≡ false → call_in words ≡ Some call
unfolding typed_call
typed words call is scripted = plain_in words call
    (plain_by (plain_call words) (asked_in words) call
    (taken_by (why_refused words) (or_request (plain_call words) (asked_in words)) call is)
    scripted) scripted
