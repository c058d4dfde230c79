-- Several calls of a link, one after the other.
use Rattle.std.proofs.Common.{◌≡◌, ℕ, ◌+◌, ◌-◌, ◌≤◌, List, ◌++◌, length, take, drop, refl, ◌∙◌, ap, sym, arith, append_assoc, subst, Result, Err}
use Rattle.std.proofs.lemmas.Grind.{common_steps}
use Rattle.std.proofs.lemmas.List.{drop-drop, length-drop, length-take, take-take, take-append-le}
use Rattle.std.proofs.Math.Seq.{take-add, take-length, take-append-add}
use Rattle.kmip_link.specs.declared.link.LinkError.{LinkError}
use Rattle.kmip_link.specs.State.{LinkState, Writes, Keeps, left}
use Rattle.kmip_client.specs.Transfer.{Takes, TakesPart}

pub same_error : {A : Type 0} {e f : LinkError} → ◌≡◌ {A = Result A LinkError} (Err e) (Err f) → e ≡ f
same_error is = cc

pub keeps_self : (a : LinkState) → Keeps a a
keeps_self a = record { tells = refl; still = refl; mark = refl; faults = omega arith }

pub keeps_on : {a b c : LinkState} → Keeps a b → Keeps b c → Keeps a c
keeps_on ab bc = record {
  tells = bc.tells ∙ ab.tells;
  still = bc.still ∙ ab.still;
  mark =
      bc.mark ∙ ab.mark;
  faults = omega arith;
}

pub writes_on : {a b c : LinkState} {xs ys : List ℕ} → Keeps a b → Writes a b xs → Writes b c ys → Writes a c (xs ++ ys)
writes_on {a = a} {b = b} {c = c} {xs = xs} {ys = ys} keeps ab bc = record {
  sent = grind (arith, common_steps);
  pos = bc.pos ∙ ab.pos;
  ever = (
    ab.ever.0 ++ bc.ever.0,
    bc.ever.1 ∙ ap (λ l. l ++ bc.ever.0) ab.ever.1
        ∙ append_assoc a.ever ab.ever.0 bc.ever.0,
  );
  still = λ h. bc.still (rw keeps.still h) ∙ ab.still h;
}

take_more : (n m : ℕ) (xs : List ℕ) → take n xs ++ take m (drop n xs) ≡ take (n + m) xs
take_more n m xs = sym (take-add n m xs)

-- the rest of xs, as a slice from n on is written
rest_is : (n : ℕ) (xs : List ℕ) → take (length xs - n) (drop n xs) ≡ drop n xs
rest_is n xs = rw (← length-drop n xs) (take-length (drop n xs))

pub writes_next : {a b c : LinkState} (n m : ℕ) (xs : List ℕ) → Keeps a b → Writes a b (take n xs)
    → Writes b c (take m (take (length xs - n) (drop n xs))) → Writes a c (take (n + m) xs)
writes_next {a = a} {b = b} {c = c} n m xs keeps ab bc =
    let P : List ℕ → Type 0 = λ l. Writes a c l in
    let Q : List ℕ → Type 0 = λ l. Writes b c (take m l) in
    subst P (take_more n m xs) (writes_on keeps ab (subst Q (rest_is n xs) bc))

pub left_after : {a b : LinkState} {n : ℕ} → Takes a b n → left b ≡ drop n (left a)
left_after {a = a} {b = b} {n = n} ab = rw (ab.pos, ab.ever) (sym (drop-drop n a.pos a.ever))

pub takes_on : {a b c : LinkState} {n m : ℕ} → Takes a b n → Takes b c m → Takes a c (n + m)
takes_on {a = a} {b = b} {c = c} {n = n} {m = m} ab bc = record {
  within =
      let e : length (left b) ≡ length (left a) - n = ap length (left_after ab) ∙ length-drop n (left a) in
      omega (arith, bc.within, ab.within);
  pos = omega arith;
  ever = bc.ever ∙ ab.ever;
  sent = bc.sent ∙ ab.sent;
}

-- the bytes of two readings, one after the other
pub bytes_on : {a b : LinkState} {n : ℕ} (m : ℕ) (xs : List ℕ) → Takes a b n
    → (xs ++ take n (left a)) ++ take m (left b) ≡ xs ++ take (n + m) (left a)
bytes_on {a = a} {b = b} {n = n} m xs ab =
    append_assoc xs (take n (left a)) (take m (left b))
    ∙ ap (λ l. xs ++ l) (ap (λ l. take n (left a) ++ take m l) (left_after ab)
    ∙ take_more n m (left a))

pub bytes_from : {a b : LinkState} {n : ℕ} (m : ℕ) → Takes a b n
    → take n (left a) ++ take m (left b) ≡ take (n + m) (left a)
bytes_from {a = a} {n = n} m ab = ap (λ l. take n (left a) ++ take m l) (left_after ab) ∙ take_more n m (left a)

-- what was taken and what is left are all that was left
pub left_length : {a b : LinkState} {n : ℕ} → Takes a b n → n + length (left b) ≡ length (left a)
left_length {a = a} {b = b} {n = n} ab =
    let e : length (left b) ≡ length (left a) - n = ap length (left_after ab) ∙ length-drop n (left a) in
    omega (arith, ab.within)

pub takes_part_on : {a b c : LinkState} {n : ℕ} (m most : ℕ) → Takes a b n → TakesPart b c m
    → n + m ≤ most → TakesPart a c most
takes_part_on {n = n} m most ab bc h = (n + bc.0, omega arith, takes_on ab bc.2)

-- a list that begins with one that begins with a third begins with the third
pub kept_on : (xs ys zs : List ℕ) → take (length xs) ys ≡ xs → take (length ys) zs ≡ ys → take (length xs) zs ≡ xs
kept_on xs ys zs a b =
    let short : length xs ≤ length ys = omega (arith, ap length a, length-take (length xs) ys) in
    sym (take-take (length xs) (length ys) zs short) ∙ ap (λ l. take (length xs) l) b ∙ a

-- what was read into its place, once the room after it is cut off
pub read_in_place : (old m into p q : List ℕ) (n got len : ℕ) → take n m ≡ old → n ≡ length old
    → got ≤ length into → n + got ≤ len
    → take (n + got) (take len ((take n m ++ (into ++ p)) ++ q)) ≡ old ++ take got into
read_in_place old m into p q n got len is at within all =
    take-take (n + got) len ((take n m ++ (into ++ p)) ++ q) all
    ∙ (rw (is, at, append_assoc old (into ++ p) q, append_assoc into p q) (take-append-add old (into ++ (p ++ q)) got))
    ∙ ap (λ l. old ++ l) (take-append-le got into (p ++ q) within)
