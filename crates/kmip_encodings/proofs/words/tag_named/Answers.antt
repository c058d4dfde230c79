use Rattle.std.proofs.Common.{◌≡◌, ℕ, ◌<◌, ◌≤◌, ◌^◌, Option, Some, None, sym, ap, ◌∙◌, ◌+◌, arith}
use Rattle.std.specs.Prelude.{MatchOption}
use Rattle.kmip_tags.specs.Table.{first_tag}
use Rattle.kmip_encodings.specs.Words.{tag_named, named_from}
use Rattle.kmip_encodings.proofs.Named.{named_more, named_here, named_none}
use Rattle.kmip_encodings.proofs.words.tag_named.Goals as goal

made : (r : Option ℕ) (n : ℕ) → n < 2 ^ 24 → MatchOption r (2 ^ 24 ≤ n) (λ tag. (tag ≡ n) × (n < 2 ^ 24)) → r ≡ Some n
made (Some tag) n small h = ap Some h.0
made None n small h = absurd (omega arith)

pub loop-index-init : goal.loop-index-init
unfolding tag_named
loop-index-init c = ap (λ ws. named_from first_tag ws c.args.word.now) c.all_words-words.ensures.table

pub loop-index-preserved : goal.loop-index-preserved
loop-index-preserved c =
    named_more c.all_words-words.result.now first_tag c.loop-index.index _ c.args.word.now _ c.loop-index-test.true (sym c.is_word.ensures ∙ c.if-is_word.false) c.loop-index.invariant

pub returns-then-is_word : goal.returns-then-is_word
returns-then-is_word c =
    made c.new.result (first_tag + c.loop-index.index) (omega (arith, c.all_words-words.ensures.length)) c.new.ensures
    ∙ named_here c.all_words-words.result.now first_tag c.loop-index.index _ c.args.word.now _ c.loop-index-test.true (sym c.is_word.ensures ∙ c.if-is_word.true) c.loop-index.invariant

pub returns : goal.returns
returns c = named_none c.all_words-words.result.now
    (first_tag + c.loop-index.index)
    c.loop-index.index c.args.word.now _ c.loop-index-test.false c.loop-index.invariant
