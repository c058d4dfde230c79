use Rattle.std.proofs.Common.{Vec, Global, IsUtf8, ap, subst, ◌∙◌, ◌≡◌, ◌++◌, List, ℕ, []}
use Rattle.json.specs.Token.{Token}
use Rattle.json.specs.Print.{print}
use Rattle.json.specs.Tree.{json_tokens}
use Rattle.kmip_tags.specs.Tags.{ATTRIBUTE_VALUE}
use Rattle.kmip_wire.specs.Tree.{Tree}
use Rattle.kmip_encodings.specs.Encoding.{Offset, json_at, text_at}
use Rattle.kmip_encodings.proofs.write_json.append_json.Goals as goal

whole : (at : Offset) (named : ℕ) (tree : Tree) (old before now : List ℕ) (none tokens : List Token)
    → named ≡ ATTRIBUTE_VALUE → none ≡ [] → before ≡ old → tokens ≡ none ++ json_tokens (json_at at named tree)
    → now ≡ before ++ print tokens → now ≡ old ++ text_at at tree
unfolding text_at
whole at named tree old before now none tokens v n b t e =
    e ∙ ap (λ l. l ++ print tokens) b ∙ ap (λ ts. old ++ print ts)
    (t ∙ ap (λ l. l ++ json_tokens (json_at at named tree)) n ∙ ap (λ m. json_tokens (json_at at m tree)) v)

pub returns-in-Ok-clause-all : goal.returns-in-Ok-clause-all
returns-in-Ok-clause-all c =
    whole c.args.at c.unnamed.result c.args.tree.now c.args.out.now.items _ _ _ _ c.unnamed.ensures c.new-writer.ensures.tokens
    (c.put_tree-written.ensures.before ∙ c.new-writer.ensures.before
    ∙ ap (λ (v : Vec ℕ Global). v.items) c.replace.ensures.value)
    c.in-Ok.ensures.tokens c.into_inner.ensures.items

-- what is printed is UTF-8
in_utf8 : (at : Offset) (named : ℕ) (tree : Tree) (none tokens : List Token) → named ≡ ATTRIBUTE_VALUE → none ≡ []
    → tokens ≡ none ++ json_tokens (json_at at named tree) → IsUtf8 (print tokens) → IsUtf8 (text_at at tree)
unfolding text_at
in_utf8 at named tree none tokens v n t h =
    subst (λ (ts : List Token). IsUtf8 (print ts))
    (t ∙ ap (λ l. l ++ json_tokens (json_at at named tree)) n ∙ ap (λ m. json_tokens (json_at at m tree)) v) h

pub returns-in-Ok-clause-utf8 : goal.returns-in-Ok-clause-utf8
returns-in-Ok-clause-utf8 c =
    in_utf8 c.args.at c.unnamed.result c.args.tree.now _ _ c.unnamed.ensures c.new-writer.ensures.tokens c.in-Ok.ensures.tokens
    c.into_inner.ensures.utf8
