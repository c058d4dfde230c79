-- Several calls of a source or a sink, one after the other.
use Rattle.std.proofs.Common.{◌≡◌, ℕ, ◌+◌, ◌-◌, ◌≤◌, List, [], ◌++◌, length, take, drop, ◌∙◌, ap, sym, arith, append_assoc}
use Rattle.std.proofs.lemmas.List.{drop-drop, length-drop, length-take, take-take}
use Rattle.std.proofs.Math.Seq.{take-add}
use Rattle.kmip_link.specs.State.{SourceState, SinkState, SourceKeeps, SinkKeeps, source_left}
use Rattle.kmip_request_words.proofs.Rests.{rest_is}
use Rattle.kmip_words.specs.Streams.{Gives, GivesPart}

pub sink_keeps_on : {a b c : SinkState} → SinkKeeps a b → SinkKeeps b c → SinkKeeps a c
sink_keeps_on ab bc = record { tells = bc.tells ∙ ab.tells; faults = omega arith }

pub source_keeps_on : {a b c : SourceState} → SourceKeeps a b → SourceKeeps b c → SourceKeeps a c
source_keeps_on ab bc = record { tells = bc.tells ∙ ab.tells; faults = omega arith }

-- the text so far and what is written next
pub text_on : (old : List ℕ) (n m : ℕ) (xs : List ℕ)
    → (old ++ take n xs) ++ take m (take (length xs - n) (drop n xs)) ≡ old ++ take (n + m) xs
text_on old n m xs = rw rest_is
    (append_assoc old (take n xs) (take m (drop n xs)) ∙ ap (λ l. old ++ l) (sym (take-add n m xs)))

pub left_after : {a b : SourceState} {n : ℕ} → Gives a b n → source_left b ≡ drop n (source_left a)
left_after {a = a} {n = n} ab = rw (ab.pos, ab.ever) (sym (drop-drop n a.pos a.ever))

pub gives_on : {a b c : SourceState} {n m : ℕ} → Gives a b n → Gives b c m → Gives a c (n + m)
gives_on {a = a} {b = b} {n = n} ab bc = record {
  within =
      let e : length (source_left b) ≡ length (source_left a) - n =
      ap length (left_after ab) ∙ length-drop n (source_left a) in
      omega (arith, bc.within, ab.within);
  pos = omega arith;
  ever = bc.ever ∙ ab.ever;
}

pub bytes_on : {a b : SourceState} {n : ℕ} (m : ℕ) (old : List ℕ) → Gives a b n
    → (old ++ take n (source_left a)) ++ take m (source_left b)
    ≡ old ++ take (n + m) (source_left a)
bytes_on {a = a} {b = b} {n = n} m old ab =
    append_assoc old (take n (source_left a)) (take m (source_left b))
    ∙ ap (λ l. old ++ l) (ap (λ l. take n (source_left a) ++ take m l) (left_after ab)
    ∙ sym (take-add n m (source_left a)))

pub gives_part_on : {a b c : SourceState} {n : ℕ} (m most : ℕ) → Gives a b n → GivesPart b c m
    → n + m ≤ most → GivesPart a c most
gives_part_on {n = n} m most ab bc h = (n + bc.0, omega (arith, bc.1), gives_on ab bc.2)

-- a list that begins with one that begins with a third begins with the third
pub kept_on : (xs ys zs : List ℕ) → take (length xs) ys ≡ xs → take (length ys) zs ≡ ys → take (length xs) zs ≡ xs
kept_on xs ys zs a b =
    let short : length xs ≤ length ys = omega (arith, ap length a, length-take (length xs) ys) in
    sym (take-take (length xs) (length ys) zs short) ∙ ap (λ l. take (length xs) l) b ∙ a

-- at the end all was read
pub at_end : {a b : SourceState} {n : ℕ} → Gives a b n → source_left b ≡ [] → n ≡ length (source_left a)
at_end {a = a} {b = b} {n = n} ab none =
    let e : length (source_left b) ≡ length (source_left a) - n =
    ap length (left_after ab) ∙ length-drop n (source_left a) in
    let z : length (source_left b) ≡ 0 = ap length none in
    omega (arith, ab.within)
