use Rattle.std.proofs.Common.{Vec, Global, IsUtf8, ap, subst, ◌∙◌, ◌≡◌, ◌++◌, List, ℕ, []}
use Rattle.json.specs.Token.{Token}
use Rattle.json.specs.Print.{print}
use Rattle.json.specs.Tree.{json_tokens}
use Rattle.kmip_tags.specs.Tags.{ATTRIBUTE_VALUE}
use Rattle.kmip_wire.specs.Tree.{Tree}
use Rattle.kmip_plain.specs.Plain.{plain_at, plain_json}
use Rattle.kmip_plain.proofs.payload.push_plain.Goals as goal

tokens_are : (named : ℕ) (tree : Tree) (none tokens : List Token) → named ≡ ATTRIBUTE_VALUE → none ≡ []
    → tokens ≡ none ++ json_tokens (plain_at named tree) → tokens ≡ json_tokens (plain_json tree)
tokens_are named tree none tokens v n t =
    t ∙ ap (λ (l : List Token). l ++ json_tokens (plain_at named tree)) n ∙ ap (λ m. json_tokens (plain_at m tree)) v

whole : (named : ℕ) (tree : Tree) (old before now : List ℕ) (none tokens : List Token)
    → named ≡ ATTRIBUTE_VALUE → none ≡ [] → before ≡ old → tokens ≡ none ++ json_tokens (plain_at named tree)
    → now ≡ before ++ print tokens → now ≡ old ++ print (json_tokens (plain_json tree))
whole named tree old before now none tokens v n b t e =
    e ∙ ap (λ (l : List ℕ). l ++ print tokens) b
    ∙ ap (λ (ts : List Token). old ++ print ts) (tokens_are named tree none tokens v n t)

pub returns-in-Ok-clause-all : goal.returns-in-Ok-clause-all
returns-in-Ok-clause-all c =
    whole c.unnamed.result c.args.tree.now c.args.out.now.items _ _ _ _ c.unnamed.ensures c.new-writer.ensures.tokens
    (c.put_tree-written.ensures.before ∙ c.new-writer.ensures.before
    ∙ ap (λ (v : Vec ℕ Global). v.items) c.replace.ensures.value)
    c.in-Ok.ensures.tokens c.into_inner.ensures.items

in_utf8 : (named : ℕ) (tree : Tree) (none tokens : List Token) → named ≡ ATTRIBUTE_VALUE → none ≡ []
    → tokens ≡ none ++ json_tokens (plain_at named tree) → IsUtf8 (print tokens)
    → IsUtf8 (print (json_tokens (plain_json tree)))
in_utf8 named tree none tokens v n t h =
    subst (λ (ts : List Token). IsUtf8 (print ts)) (tokens_are named tree none tokens v n t) h

pub returns-in-Ok-clause-utf8 : goal.returns-in-Ok-clause-utf8
returns-in-Ok-clause-utf8 c =
    in_utf8 c.unnamed.result c.args.tree.now _ _ c.unnamed.ensures c.new-writer.ensures.tokens c.in-Ok.ensures.tokens
    c.into_inner.ensures.utf8
