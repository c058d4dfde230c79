-- `encode` undoes `decode`.
use Rattle.std.proofs.Common.{◌≡◌, ℕ, ◌+◌, ◌≤◌, List, [], ◌∷◌, ◌++◌, codes, Option, Some, None, false, refl, sym, ap, subst, ◌∙◌, arith}
use Rattle.std.specs.Prelude.{Ok, IsSomeAnd}
use Rattle.hex.specs.Hex.{encode_upper}
use Rattle.json.specs.Json.{Json, document}
use Rattle.json.specs.Print.{print_from}
use Rattle.json.specs.Strict.{HasUniqueKeys}
use Rattle.kmip_wire.specs.Tree.{Tree, scalar, structure}
use Rattle.kmip_wire.specs.Bytes.{bytes, levels, AreBytes, HasRanges}
use Rattle.kmip_wire.specs.Parses.{Parses}
use Rattle.kmip_wire.proofs.Computed.{one_tree}
use Rattle.kmip_wire.proofs.Levels.{tree_levels}
use Rattle.kmip_wire.proofs.Ranges.{parsed_ranges}
use Rattle.kmip_encodings.specs.Encoding.{json_of, text_at, json_text}
use Rattle.kmip_encodings.specs.Reading.{Read, tree_of, ReadsText}
use Rattle.kmip_encodings.proofs.Law.{tree_back}
use Rattle.kmip_encodings.proofs.Line.{line_back}
use Rattle.kmip_xml.specs.Scan.{trimmed, after}
use Rattle.kmip_xml.specs.Texts.{looks_like_xml, MeansBy}
use Rattle.kmip_ttlv.specs.Program.{bytes_in, Decodes, Encodes}

same_tree : (t u : Tree) → ◌≡◌ {A = Read Tree} (Ok t) (Ok u) → t ≡ u
same_tree t u e = cc

same_bytes : (b c : List ℕ) → Some b ≡ Some c → b ≡ c
same_bytes b c e = cc

-- an item's JSON begins with no `<`
is_json : (t : Tree) → looks_like_xml (json_text t ++ 10 ∷ []) ≡ false
unfolding text_at print_from trimmed after
is_json (scalar tag s) = refl
is_json (structure tag ts) = refl

-- a value of JSON means the tree
abbrev MeansTree : Tree → Option Json → Type 0
MeansTree u o = IsSomeAnd o (λ j. HasUniqueKeys j × (tree_of j ≡ Ok u))

-- what the line of a tree's JSON means
meant : (t u : Tree) (line : List ℕ) → HasRanges t → levels t ≤ 64 → line ≡ json_text t ++ 10 ∷ []
    → ReadsText (Ok u) line → u ≡ t
meant t u line ranges deep is reads =
    let same : MeansTree u (Some (json_of t)) =
    subst (MeansTree u) (ap document is ∙ line_back t ranges deep) reads in
    same_tree u t (sym same.1 ∙ tree_back t ranges deep)

pub encoded_back : (t : Tree) (b input between output : List ℕ) → AreBytes (bytes_in input)
    → Parses t 1 (bytes_in input) → bytes t ≡ Some b → Decodes json_text input between
    → Encodes between output → output ≡ encode_upper b ++ codes "\n"
encoded_back t b input between output are parses canonical (u, read, written) (v, reads, (c, has, is)) =
    let first : u ≡ t = one_tree u t 1 (bytes_in input) read parses in
    let line : between ≡ json_text t ++ 10 ∷ [] = written ∙ ap (λ x. json_text x ++ 10 ∷ []) first in
    let deep : levels t ≤ 64 = omega (arith, tree_levels t 1 (bytes_in input) parses) in
    let ranges : HasRanges t = parsed_ranges t 1 (bytes_in input) are parses in
    let json : ReadsText (Ok v) between =
    subst (λ b. MeansBy b between v) (ap looks_like_xml line ∙ is_json t) reads in
    let second : v ≡ t = meant t v between ranges deep line json in
    let same : c ≡ b = same_bytes c b (sym has ∙ ap bytes second ∙ canonical) in
    is ∙ ap (λ x. encode_upper x ++ 10 ∷ []) same
