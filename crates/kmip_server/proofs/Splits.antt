-- A whole message that is sent after whole messages is one message more.
use Rattle.std.proofs.Common.{◌≡◌, ℕ, ◌+◌, ◌-◌, ◌<◌, ◌≤◌, List, [], ◌∷◌, ◌++◌, length, take, drop, length-drop, refl, ◌∙◌, ap, sym, subst, arith, append_assoc, Bool, true, false, cond}
use Rattle.std.specs.List.{fold}
use Rattle.std.proofs.Math.ListN.{get_or-append}
use Rattle.std.proofs.lemmas.List.{length-append, take-append-drop}
use Rattle.std.proofs.lemmas.List.Sums.{fold-append}
use Rattle.std.proofs.lemmas.Bool.Decides.{nat_tests}
use Rattle.kmip_wire.specs.Head.{head_length}
use Rattle.kmip_server.specs.Split.{IsMessage, is_message, Split, took, nothing_sent, messages_in}

-- the length that a head tells is that of the first eight bytes
pub head_same : (b rest : List ℕ) → 8 ≤ length b → head_length (b ++ rest) ≡ head_length b
unfolding head_length
head_same b rest h = rw (
  get_or-append b rest 0 4 (omega arith),
  get_or-append b rest 0 5 (omega arith),
  get_or-append b rest 0 6 (omega arith),
  get_or-append b rest 0 7 (omega arith),
) refl

pub message_is : (b : List ℕ) → IsMessage b → is_message b ≡ true
unfolding is_message
message_is b m =
    let h : 8 ≤ length b = m.head in let s : length b ≡ 8 + head_length b = m.size in
    grind (arith, nat_tests)

pub message_says : (b : List ℕ) → is_message b ≡ true → IsMessage b
unfolding is_message
message_says b is = record { head = grind (arith, nat_tests); size = grind (arith, nat_tests) }

-- a proper first part of a message is none
pub part_is_none : (m rest : List ℕ) → IsMessage (m ++ rest) → 0 < length rest → is_message m ≡ false
part_is_none m rest whole some = go (is_message m) refl
  where
    go : (b : Bool) → is_message m ≡ b → b ≡ false
    go false e = refl
    go true e =
        let p : IsMessage m = message_says m e in
        let same : head_length (m ++ rest) ≡ head_length m = head_same m rest p.head in
        absurd (omega (arith, p.size, whole.size, same, length-append m rest))

pub append_none : (xs : List ℕ) → xs ≡ xs ++ []
append_none [] = refl
append_none (x ∷ xs) = ap (λ l. x ∷ l) (append_none xs)

abbrev pub with_begun : List (List ℕ) → List ℕ → Split
with_begun w m = record { whole = w; begun = m }

tested : (w : List (List ℕ)) (m : List ℕ) (x : ℕ) (b : Bool) → is_message (m ++ x ∷ []) ≡ b →
    took (with_begun w m) x ≡ cond b (with_begun (w ++ (m ++ x ∷ []) ∷ []) []) (with_begun w (m ++ x ∷ []))
tested w m x b e = rw e refl

pub taken : (w : List (List ℕ)) (m : List ℕ) (x : ℕ) (rest : List ℕ) → IsMessage (m ++ x ∷ rest)
    → fold took (with_begun w m) (x ∷ rest) ≡ with_begun (w ++ (m ++ x ∷ rest) ∷ []) []
taken w m x [] whole = tested w m x true (message_is (m ++ x ∷ []) whole)
taken w m x (y ∷ rest) whole =
    let e : (m ++ x ∷ []) ++ y ∷ rest ≡ m ++ x ∷ y ∷ rest = append_assoc m (x ∷ []) (y ∷ rest) in
    let whole' : IsMessage ((m ++ x ∷ []) ++ y ∷ rest) = subst IsMessage (sym e) whole in
    let none : is_message (m ++ x ∷ []) ≡ false = part_is_none (m ++ x ∷ []) (y ∷ rest) whole' (omega arith) in
    ap (λ (s : Split). fold took s (y ∷ rest)) (tested w m x false none)
    ∙ taken w (m ++ x ∷ []) y rest whole'
    ∙ ap (λ (b : List ℕ). with_begun (w ++ b ∷ []) []) e

-- a message after whole messages
pub split_message : (sent b : List ℕ) → (messages_in sent).begun ≡ [] → IsMessage b
    → messages_in (sent ++ b) ≡ with_begun ((messages_in sent).whole ++ b ∷ []) []
unfolding messages_in
split_message sent [] none whole = absurd (omega (arith, whole.head))
split_message sent (x ∷ b) none whole =
    fold-append took nothing_sent sent (x ∷ b)
    ∙ ap (λ (m : List ℕ). fold took (with_begun (fold took nothing_sent sent).whole m) (x ∷ b)) none
    ∙ taken (fold took nothing_sent sent).whole [] x b whole

-- bytes that go to a begun message and do not end it
begun_grows : (w : List (List ℕ)) (m xs rest : List ℕ) → IsMessage (m ++ (xs ++ rest))
    → 0 < length rest → fold took (with_begun w m) xs ≡ with_begun w (m ++ xs)
begun_grows w m [] rest whole some = ap (with_begun w) (append_none m)
begun_grows w m (x ∷ xs) rest whole some =
    let e : (m ++ x ∷ []) ++ (xs ++ rest) ≡ m ++ (x ∷ (xs ++ rest)) = append_assoc m (x ∷ []) (xs ++ rest) in
    let whole' : IsMessage ((m ++ x ∷ []) ++ (xs ++ rest)) = subst IsMessage (sym e) whole in
    let more : 0 < length (xs ++ rest) =
    let l : length (xs ++ rest) ≡ length xs + length rest = length-append xs rest in
    omega (arith, some) in
    let none : is_message (m ++ x ∷ []) ≡ false = part_is_none (m ++ x ∷ []) (xs ++ rest) whole' more in
    ap (λ (s : Split). fold took s xs) (tested w m x false none)
    ∙ begun_grows w (m ++ x ∷ []) xs rest whole' some
    ∙ ap (with_begun w) (append_assoc m (x ∷ []) xs)

-- a proper first part of a message after whole messages
pub split_part : (sent b : List ℕ) (n : ℕ) → (messages_in sent).begun ≡ [] → IsMessage b
    → n < length b → messages_in (sent ++ take n b) ≡ with_begun (messages_in sent).whole (take n b)
unfolding messages_in
split_part sent b n none whole part =
    let cut : take n b ++ drop n b ≡ b = take-append-drop n b in
    let l : length (drop n b) ≡ length b - n = length-drop n b in
    fold-append took nothing_sent sent (take n b)
    ∙ ap (λ (m : List ℕ). fold took (with_begun (fold took nothing_sent sent).whole m) (take n b)) none
    ∙ begun_grows (fold took nothing_sent sent).whole [] (take n b) (drop n b)
    (subst IsMessage (sym cut) whole) (omega (arith, part, l))
