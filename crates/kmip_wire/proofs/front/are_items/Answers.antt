use Rattle.std.proofs.Common.{◌≡◌, ◌∙◌, ap, refl, sym, subst, arith, ◌+◌, ◌-◌, ◌%◌, ◌<◌, ◌≤◌, suc, set, length, take}
use Rattle.std.proofs.lemmas.List.{take_rest, length-drop}
use Rattle.std.proofs.Math.Facts.{Fits-lt-pow}
use Rattle.std.specs.Option.{is_some}
use Rattle.kmip_wire.specs.Head.{head_length, size_at}
use Rattle.kmip_wire.specs.Kinds.{kind_of}
use Rattle.kmip_wire.specs.Reading.{items_of}
use Rattle.kmip_wire.specs.Open.{State}
use Rattle.kmip_wire.proofs.Steps.{none_left, tells_short, tells_ragged, tells_open, empty}
use Rattle.kmip_wire.proofs.Closings.{start, whole, found_malformed, found_item, found_deepest, found_open, found_end}
use Rattle.kmip_wire.proofs.front.are_items.Goals.{then-length-ne0-via-then-length-ne0, then-length-ne0-via-else-length-ne0+then-length-left}
use Rattle.kmip_wire.proofs.front.are_items.Goals as goal

pub returns-then-levels-eq0 : goal.returns-then-levels-eq0
returns-then-levels-eq0 c = c.is_empty.ensures ∙ none_left c.args.bytes.now
    ∙ ap (λ k. is_some (items_of k c.args.bytes.now)) (sym c.if-levels-eq0.true)

pub items-init : goal.items-init
items-init c = (start c.args.levels c.args.bytes.now (omega (arith, c.if-levels-eq0.false)), c.requires.fits)

pub items-preserved-then-left-eq0 : goal.items-preserved-then-left-eq0
items-preserved-then-left-eq0 c =
    let s = c.words
    in let e : c.items.depth ≡ suc (c.items.depth - 1) = omega (arith, c.if-depth-eq0.false)
    in (
      found_end c.args.levels c.args.bytes.now c.items.lefts c.items.depth s.left s.rest.now c.requires.levels s.invariant.0 (c.items.depth - 1) e c.if-left-eq0.true,
      Fits-lt-pow c.if-depth-eq0.element_fits,
    )

pub returns-then-left-lt8 : goal.returns-then-left-lt8
returns-then-left-lt8 c =
    let s = c.words
    in let b = take s.left s.rest.now
    in
    let l =
    whole c.args.levels c.args.bytes.now c.items.lefts c.items.depth s.left s.rest.now c.requires.levels s.invariant.0
    in let some : 0 < length b = omega (arith, l, c.if-left-eq0.false)
    in found_malformed c.args.levels c.args.bytes.now c.items.lefts c.items.depth s.left s.rest.now c.requires.levels s.invariant.0 (tells_short b some (omega (arith, l, c.if-left-lt8.true)))

pub words-preserved : goal.words-preserved
words-preserved c =
    let s = c.words
    in (
      subst (State c.args.levels c.args.bytes.now c.items.lefts c.items.depth (s.left - 16))
          (sym (take_rest s.rest.now 16))
          (found_item c.args.levels c.args.bytes.now c.items.lefts c.items.depth s.left s.rest.now c.requires.levels s.invariant.0 16 (c.is_word.ensures c.if-is_word.true)),
      omega (arith, s.invariant.1),
      omega (arith, s.invariant.2, length-drop 16 s.rest.now),
    )

pub returns-then-length-ne0 : goal.returns-then-length-ne0
returns-then-length-ne0 c =
    let s = c.words
    in let b = take s.left s.rest.now
    in
    let l =
    whole c.args.levels c.args.bytes.now c.items.lefts c.items.depth s.left s.rest.now c.requires.levels s.invariant.0
    in let some : 0 < length b = omega (arith, l, c.if-left-eq0.false)
    in let n = c.head_length-length.ensures
    in found_malformed c.args.levels c.args.bytes.now c.items.lefts c.items.depth s.left s.rest.now c.requires.levels s.invariant.0 (elim c.then-length-ne0.branch [
      | then-length-ne0-via-then-length-ne0 w ↦ tells_ragged b some
          (ap kind_of (sym c.if-front-eq1.true)) (λ e. w.if-length-ne0.true (ap (λ k. k % 8) n ∙ e))
      | then-length-ne0-via-else-length-ne0+then-length-left w ↦ tells_short b some
          (omega (arith, l, n, w.if-length-left.true, c.if-left-lt8.false))
    ])

pub items-preserved-then-length-eq0 : goal.items-preserved-then-length-eq0
items-preserved-then-length-eq0 c =
    let s = c.words
    in let b = take s.left s.rest.now
    in
    let l =
    whole c.args.levels c.args.bytes.now c.items.lefts c.items.depth s.left s.rest.now c.requires.levels s.invariant.0
    in let some : 0 < length b = omega (arith, l, c.if-left-eq0.false)
    in let none : head_length b ≡ 0 = sym c.head_length-length.ensures ∙ c.if-length-eq0.true
    in let here : size_at b ≤ length b = omega (arith, l, none, c.if-left-lt8.false)
    in (
      subst (State c.args.levels c.args.bytes.now c.items.lefts c.items.depth (s.left - 8))
          (sym (take_rest s.rest.now 8))
          (found_item c.args.levels c.args.bytes.now c.items.lefts c.items.depth s.left s.rest.now c.requires.levels s.invariant.0 8 (empty b some here (ap kind_of (sym c.if-front-eq1.true)) none)),
      omega (arith, s.invariant.1),
    )

pub returns-else-length-eq0 : goal.returns-else-length-eq0
returns-else-length-eq0 c =
    let s = c.words
    in let b = take s.left s.rest.now
    in
    let l =
    whole c.args.levels c.args.bytes.now c.items.lefts c.items.depth s.left s.rest.now c.requires.levels s.invariant.0
    in let some : 0 < length b = omega (arith, l, c.if-left-eq0.false)
    in let n = c.head_length-length.result
    in let contents : 0 < n = omega (arith, c.if-length-eq0.false)
    in let e : c.items.depth + 1 ≡ c.args.levels =
    omega (arith, c.if-depth-deepest.false, c.if-levels-eq0.false, s.invariant.0.within)
    in found_deepest c.args.levels c.args.bytes.now c.items.lefts c.items.depth s.left s.rest.now c.requires.levels s.invariant.0 n
    (tells_open b some n c.head_length-length.ensures
    (ap kind_of (sym c.if-front-eq1.true)) c.if-length-ne0.false
    (omega (arith, l, c.if-length-left.false)) (omega (arith, l, c.if-left-lt8.false)))
    contents e

pub items-preserved-then-depth-deepest : goal.items-preserved-then-depth-deepest
items-preserved-then-depth-deepest c =
    let s = c.words
    in let b = take s.left s.rest.now
    in
    let l =
    whole c.args.levels c.args.bytes.now c.items.lefts c.items.depth s.left s.rest.now c.requires.levels s.invariant.0
    in let some : 0 < length b = omega (arith, l, c.if-left-eq0.false)
    in let n = c.head_length-length.result
    in let more = s.left - 8 - n
    in let opening = tells_open b some n c.head_length-length.ensures
    (ap kind_of (sym c.if-front-eq1.true)) c.if-length-ne0.false
    (omega (arith, l, c.if-length-left.false)) (omega (arith, l, c.if-left-lt8.false))
    in (
      subst (State c.args.levels c.args.bytes.now (set c.items.lefts c.items.depth more)
          (c.items.depth + 1) n) (sym (take_rest s.rest.now 8))
          (found_open c.args.levels c.args.bytes.now c.items.lefts c.items.depth s.left s.rest.now c.requires.levels s.invariant.0 n (c.items.depth + 1) more opening (λ e. omega (arith, e, c.if-depth-deepest.true)) (omega arith) refl),
      c.head_length-length.type_inv,
    )

pub items-preserved : goal.items-preserved
items-preserved c =
    let s = c.words
    in let n = c.in-Some.whole
    in (
      subst (State c.args.levels c.args.bytes.now c.items.lefts c.items.depth (s.left - n))
          (sym (take_rest s.rest.now n))
          (found_item c.args.levels c.args.bytes.now c.items.lefts c.items.depth s.left s.rest.now c.requires.levels s.invariant.0 n c.in-Some.ensures),
      omega (arith, s.invariant.1),
    )
