use Rattle.std.proofs.Common.{ap, ◌∙◌, ◌∷◌, [], ◌++◌}
use Rattle.json.specs.Token as token
use Rattle.kmip_encodings.proofs.Written.{item_written}
use Rattle.kmip_encodings.proofs.write_json.put_item.Goals as goal

pub returns-clause-tokens : goal.returns-clause-tokens
returns-clause-tokens c =
    item_written c.args.at c.args.tag c.args.kind _ _ _ _ _ _ _ _ c.in_ok-put_start.ensures.tokens c.in_ok-key.ensures.ok
    (c.in_ok-string.ensures.ok ∙ ap (λ t. c.key.new.self.tokens ++ token.string t ∷ []) c.name.ensures)
    c.in_ok-key-2.ensures.ok c.in_ok-put_part.ensures.tokens c.in_ok-end_object.ensures.ok
