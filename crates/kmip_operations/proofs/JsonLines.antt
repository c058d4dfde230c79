-- The line of an answer is a text of JSON.
use Rattle.std.proofs.Common.{◌≡◌, ℕ, List, [], ◌∷◌, ◌++◌, codes, IsUtf8, Bool, true, false, refl, sym, ap, ◌∙◌, append_assoc, append-nil, arith}
use Rattle.std.proofs.lemmas.Str.{IsUtf8-append}
use Rattle.std.specs.Char.{encode_utf8}
use Rattle.std.specs.List.{fold}
use Rattle.std.specs.Option.{option_and_then}
use Rattle.json.specs.Token as token
use Rattle.json.specs.Json.{Json, object, member, no_members, value, if_last}
use Rattle.json.specs.Print.{print, print_from, ends, escape_byte}
use Rattle.json.specs.Tree.{json_tokens, depth, HasNumbers}
use Rattle.json.proofs.Printed.Tokens.{tokens-print, print_from-append}
use Rattle.json.proofs.Printed.Trees.{value-json_tokens, ArePrintable-json_tokens}
use Rattle.kmip_wire.specs.Tree.{Tree}
use Rattle.kmip_shape.specs.declared.style.Style.TheVariants.{Json as AsJson}
use Rattle.kmip_plain.specs.Payload.{payload_json, payload_text}
use Rattle.kmip_plain.specs.declared.payload.PayloadForm.{PayloadForm}
use Rattle.kmip_words.specs.Exchange.{value_line}
use Rattle.kmip_operations.specs.JsonLines.{IsLineOf, answer_json}

closing : (b : Bool) → print_from b (token.end_object ∷ []) ≡ codes "}"
unfolding print_from
closing true = refl
closing false = refl

-- the text of an object with one member
printed : (j : Json) → print (json_tokens (object (member (codes "answer") j no_members)))
    ≡ codes "{\"answer\":" ++ (print (json_tokens j) ++ codes "}")
unfolding print_from escape_byte
printed j =
    ap (λ (l : List ℕ). codes "{\"answer\":" ++ l)
    (print_from-append false (json_tokens j) (token.end_object ∷ [])
    ∙ ap (λ (l : List ℕ). print (json_tokens j) ++ l) (closing (fold (λ _ u. ends u) false (json_tokens j))))

-- the line of a tree
pub tree_reads : (form : PayloadForm) (tree : Tree) → HasNumbers (payload_json form tree)
    → IsLineOf (answer_json form tree) (value_line (payload_text form tree) AsJson)
unfolding payload_text
tree_reads form tree h =
    let whole : Json = answer_json form tree in
    record {
      text = print (json_tokens whole);
      deep = depth whole;
      reads = ap (option_and_then (λ p. if_last p.0 p.1))
          (ap (value (depth whole)) (tokens-print (json_tokens whole)
          (ArePrintable-json_tokens whole (h, tt)) ∙ sym (append-nil (json_tokens whole)))
          ∙ value-json_tokens whole (depth whole) [] (omega arith));
      line_is = ap (λ (l : List ℕ). codes "{\"answer\":" ++ l)
          (sym (append_assoc (payload_text form tree) (codes "}") (codes "\n")))
          ∙ ap (λ (t : List ℕ). t ++ codes "\n") (sym (printed (payload_json form tree)));
    }

front : IsUtf8 (codes "{\"answer\":")
unfolding encode_utf8
front = (codes "{\"answer\":", (refl, refl))

end : IsUtf8 (codes "}\n")
unfolding encode_utf8
end = (codes "}\n", (refl, refl))

-- a line with a value in UTF-8
pub value_in_utf8 : (value : List ℕ) → IsUtf8 value → IsUtf8 (value_line value AsJson)
value_in_utf8 value utf8 =
    IsUtf8-append (codes "{\"answer\":") (value ++ codes "}\n") front
    (IsUtf8-append value (codes "}\n") utf8 end)
