use Rattle.std.proofs.Common.{◌≡◌, ◌∙◌, ap, ℕ, List, ◌++◌, append_assoc}
use Rattle.kmip_encodings.specs.Refusals.{position_text, path_part, found_text, found_words}
use Rattle.kmip_encodings.proofs.refusal.push_refusal.Goals as goal

parts_told : (at path words old first next new : List ℕ) → first ≡ old ++ at → next ≡ first ++ path
    → new ≡ next ++ words → new ≡ old ++ (at ++ (path ++ words))
parts_told at path words old first next new p q r =
    r ∙ ap (λ t. t ++ words) (q ∙ ap (λ t. t ++ path) p)
    ∙ append_assoc (old ++ at) path words ∙ append_assoc old at (path ++ words)

pub returns : goal.returns
returns c =
    let refusal = c.args.refusal.now in
    parts_told (position_text refusal.line refusal.column) (path_part refusal.path)
    (found_text refusal.expected (found_words refusal.found)) c.args.out.now
    c.push_position.new.out c.push_path.new.out c.push_words.new.out c.in_ok-push_position.ensures
    (c.in_ok-push_path.ensures ∙ ap (λ t. c.push_position.new.out ++ path_part t) c.as_str.ensures.bytes)
    (c.in_ok-push_words.ensures
    ∙ ap (λ t. c.push_path.new.out ++ found_text t (found_words refusal.found)) c.as_str-2.ensures.bytes)
