use Rattle.std.proofs.Common.{◌≡◌, ◌∙◌, ℕ, List, length, drop, get_or, sym, ap, arith, rules, tests, ◌++◌, ◌+◌, ◌<◌}
use Rattle.std.specs.List.{slice_split}
use Rattle.std.proofs.lemmas.Iterator.Splits.{YieldsList-from_slice_split}
use Rattle.std.proofs.lemmas.Iterator.Consumers.{YieldsList-at, YieldsList-turn, YieldsList-end}
use Rattle.std.proofs.lemmas.List.{at_drop_all, at_drop_more, length_push, append_assoc, append-nil}
use Rattle.kmip_web.specs.Input.{digits_of, is_feed, part_digits, part_of}
use Rattle.kmip_web.proofs.input.digits_of.Goals as goal

-- the digits of the lines from the n-th on, which is this one
more : (side : ℕ) (lines : List (List ℕ)) (n : ℕ) (line : List ℕ)
    → (n < length lines) × (line ≡ get_or lines n line)
    → digits_of side (drop n lines)
    ≡ part_digits side (part_of line) ++ digits_of side (drop (n + 1) lines)
more side lines n line h = at_drop_more (digits_of side) lines n line h.0
    ∙ ap (λ x. part_digits side (part_of x) ++ digits_of side (drop (n + 1) lines)) (sym h.1)

pub loop-line-preserved : goal.loop-line-preserved
loop-line-preserved c =
    let l = c.loop-line in
    let side = c.args.side in
    let all = slice_split is_feed c.args.text.now in
    let t = YieldsList-turn (YieldsList-at c.into_iter-line-iterator.ensures.into_iter_gives
    (YieldsList-from_slice_split _ is_feed c.args.text.now c.split-line-items.ensures.rest
    c.split-line-items.ensures.done c.split-line-items.ensures.closure
    (λ x b q k. search (rules, tests))))
    l.yielded _ l.yielded_by _ _ c.in-Some.line c.in-Some.is c.next.ensures.steps in
    let n = length_push l.yielded c.in-Some.line in
    let line = part_digits side (part_of c.in-Some.line.now) in
    l.invariant
    ∙ ap (λ x. l.digits.items ++ x) (more side all (length l.yielded) c.in-Some.line.now t)
    ∙ sym (append_assoc l.digits.items line (digits_of side (drop (length l.yielded + 1) all)))
    ∙ ap (λ x. x ++ digits_of side (drop (length l.yielded + 1) all))
    (sym c.in_ok-push_line.ensures)
    ∙ ap (λ k. c.push_line.new.digits.items ++ digits_of side (drop k all)) (sym n)

pub returns : goal.returns
returns c =
    let l = c.loop-line in
    let side = c.args.side in
    let all = slice_split is_feed c.args.text.now in
    let t = YieldsList-end (YieldsList-at c.into_iter-line-iterator.ensures.into_iter_gives
    (YieldsList-from_slice_split _ is_feed c.args.text.now c.split-line-items.ensures.rest
    c.split-line-items.ensures.done c.split-line-items.ensures.closure
    (λ x b q k. search (rules, tests))))
    l.yielded _ l.yielded_by _ _ c.in-None.is c.next.ensures.steps in
    sym (l.invariant ∙ ap (λ x. l.digits.items ++ x)
    (at_drop_all (digits_of side) all (length l.yielded) (omega (arith, t.1)))
    ∙ append-nil l.digits.items)
