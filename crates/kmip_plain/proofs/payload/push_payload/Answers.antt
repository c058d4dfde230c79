use Rattle.std.proofs.Common.{◌≡◌, ◌++◌, OnOk, IsUtf8, List, ℕ, refl, sym, ap, subst, ◌∙◌}
use Rattle.json.specs.Print.{print}
use Rattle.json.specs.Tree.{json_tokens}
use Rattle.kmip_wire.specs.Tree.{Tree}
use Rattle.kmip_encodings.specs.Encoding.{text_at, json_text}
use Rattle.kmip_plain.specs.Plain.{plain_json}
use Rattle.kmip_plain.specs.Payload.{payload_text}
use Rattle.kmip_plain.specs.declared.payload.PayloadForm.{PayloadForm}
use Rattle.kmip_plain.specs.declared.payload.PayloadForm.TheVariants.{Tree as AsTree, Plain as AsPlain}
use Rattle.kmip_plain.proofs.payload.push_payload.Goals as goal

as_tree : (form : PayloadForm) (tree : Tree) → form ≡ AsTree → json_text tree ≡ payload_text form tree
unfolding payload_text text_at
as_tree form tree is = sym (ap (λ f. payload_text f tree) is)

as_plain : (form : PayloadForm) (tree : Tree) → form ≡ AsPlain
    → print (json_tokens (plain_json tree)) ≡ payload_text form tree
unfolding payload_text
as_plain form tree is = sym (ap (λ f. payload_text f tree) is)

pub returns-in-Tree-clause-all : goal.returns-in-Tree-clause-all
returns-in-Tree-clause-all c =
    let P : List ℕ → Type 0 = λ text. OnOk c.to_json.result (c.to_json.new.out.items ≡ c.args.out.now.items ++ text) in
    subst P (as_tree c.args.form c.args.tree.now c.in-Tree.is) c.to_json.ensures.all

pub returns-in-Tree-clause-utf8 : goal.returns-in-Tree-clause-utf8
returns-in-Tree-clause-utf8 c =
    let P : List ℕ → Type 0 = λ text. OnOk c.to_json.result (IsUtf8 text) in
    subst P (as_tree c.args.form c.args.tree.now c.in-Tree.is) c.to_json.ensures.utf8

pub returns-in-Plain-clause-all : goal.returns-in-Plain-clause-all
returns-in-Plain-clause-all c =
    let P : List ℕ → Type 0 =
    λ text. OnOk c.push_plain.result (c.push_plain.new.out.items ≡ c.args.out.now.items ++ text) in
    subst P (as_plain c.args.form c.args.tree.now c.in-Plain.is) c.push_plain.ensures.all

pub returns-in-Plain-clause-utf8 : goal.returns-in-Plain-clause-utf8
returns-in-Plain-clause-utf8 c =
    let P : List ℕ → Type 0 = λ text. OnOk c.push_plain.result (IsUtf8 text) in
    subst P (as_plain c.args.form c.args.tree.now c.in-Plain.is) c.push_plain.ensures.utf8
