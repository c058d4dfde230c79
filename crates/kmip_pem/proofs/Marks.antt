-- The lines that begin and end a block.
use Rattle.std.proofs.Common.{◌≡◌, ℕ, ◌-◌, Bool, true, false, List, ◌++◌, length, take, drop, Option, Some, None, codes, refl, sym, ap, ◌∙◌, arith, length-append, cond}
use Rattle.std.specs.Prelude.{bytes_eq, nat_eq}
use Rattle.std.specs.List.{starts_with, ends_with}
use Rattle.std.proofs.lemmas.List.{take_at, drop_at, take-append-drop}
use Rattle.std.proofs.lemmas.Option.{cond_some, none-some}
use lib.Pointwise.{bytes_decides}
use Rattle.kmip_pem.specs.Labels.{dashes, begin_line, end_line, before_dashes, begun_by, ended_by, ends}

pub bytes_same : (xs : List ℕ) → bytes_eq xs xs ≡ true
bytes_same xs = (bytes_decides xs xs).1 refl

pub same_bytes : (xs ys : List ℕ) → bytes_eq xs ys ≡ true → xs ≡ ys
same_bytes xs ys h = (bytes_decides xs ys).0 h

label_left : (label : List ℕ) → before_dashes (label ++ dashes) ≡ Some label
label_left label =
    let n : length (label ++ dashes) - 5 ≡ length label = omega (arith, length-append label dashes) in
    rw (n, drop_at label dashes (length label) refl, take_at label dashes (length label) refl) refl

pub begin_begins : (label : List ℕ) → begun_by (begin_line label) ≡ Some label
begin_begins label = label_left label

pub end_begins_none : (label : List ℕ) → begun_by (end_line label) ≡ None
end_begins_none label = refl

end_ended : (label : List ℕ) → ended_by (end_line label) ≡ Some label
end_ended label = label_left label

abbrev pub same_label : List ℕ → Option (List ℕ) → Bool
same_label label o = elim o [ None ↦ false | Some other ↦ bytes_eq other label ]

pub end_ends : (label : List ℕ) → ends label (end_line label) ≡ true
end_ends label = ap (same_label label) (end_ended label) ∙ bytes_same label

pub begin_ends_none : (label other : List ℕ) → ends label (begin_line other) ≡ false
begin_ends_none label other = refl

-- ---- and back

cond_of : {X : Type 0} (b : Bool) (o : Option X) (x : X) → cond b o None ≡ Some x → (b ≡ true) × (o ≡ Some x)
cond_of true o x h = (refl, h)
cond_of false o x h = absurd (none-some x h)

left_label : (rest label : List ℕ) → before_dashes rest ≡ Some label → rest ≡ label ++ dashes
left_label rest label h =
    let n : ℕ = length rest - 5 in
    let c = cond_some (ends_with nat_eq rest dashes) (take n rest) label h in
    let tail : dashes ≡ drop n rest = same_bytes dashes (drop n rest) c.0 in
    sym (take-append-drop n rest) ∙ (ap (λ xs. xs ++ drop n rest) c.1 ∙ ap (λ xs. label ++ xs) (sym tail))

behind : (n : ℕ) (prefix line label : List ℕ) → length prefix ≡ n → starts_with nat_eq line prefix ≡ true
    → before_dashes (drop n line) ≡ Some label → line ≡ prefix ++ (label ++ dashes)
behind n prefix line label e s h =
    let head : prefix ≡ take (length prefix) line = same_bytes prefix (take (length prefix) line) s in
    let front : prefix ≡ take n line = head ∙ ap (λ k. take k line) e in
    sym (take-append-drop n line)
    ∙ (ap (λ xs. xs ++ drop n line) (sym front) ∙ ap (λ xs. prefix ++ xs) (left_label (drop n line) label h))

pub begun_is : (line label : List ℕ) → begun_by line ≡ Some label → line ≡ begin_line label
begun_is line label h =
    let c = cond_of (starts_with nat_eq line (codes "-----BEGIN ")) (before_dashes (drop 11 line)) label h in
    behind 11 (codes "-----BEGIN ") line label refl c.0 c.1

ended_is : (line label : List ℕ) → ended_by line ≡ Some label → line ≡ end_line label
ended_is line label h =
    let c = cond_of (starts_with nat_eq line (codes "-----END ")) (before_dashes (drop 9 line)) label h in
    behind 9 (codes "-----END ") line label refl c.0 c.1

ends_of : (label line : List ℕ) (o : Option (List ℕ)) → ended_by line ≡ o → same_label label o ≡ true → line ≡ end_line label
ends_of label line None e h = absurd (cc)
ends_of label line (Some other) e h = ended_is line other e ∙ ap end_line (same_bytes other label h)

pub ends_is : (label line : List ℕ) → ends label line ≡ true → line ≡ end_line label
ends_is label line h = ends_of label line (ended_by line) refl h
