-- What a text means as a tree: XML where its first mark is `<`, and else JSON.
use Rattle.std.specs.Prelude.{◌≡◌, ℕ, Bool, true, false, List, codes, Some, Ok, Err, is_some}
use Rattle.kmip_wire.specs.Tree.{Tree}
use Rattle.kmip_encodings.specs.Reading.{ReadsText}
use Rattle.kmip_xml.specs.declared.text.TextError.{TextError}
use Rattle.kmip_xml.specs.declared.text.TextError.TheVariants.{Xml, Json}
use Rattle.kmip_encodings.specs.Refusals as json
use Rattle.kmip_encodings.specs.declared.refusal.Refusal.{Refusal}
use Rattle.kmip_xml.specs.Given.{Fails}
use Rattle.kmip_xml.specs.Refusals as xml
use Rattle.kmip_xml.specs.Scan.{trimmed, after}
use Rattle.kmip_xml.specs.Reading.{tree_of}

abbrev pub looks_like_xml : List ℕ → Bool
looks_like_xml text = is_some (after (codes "<") (trimmed text))

abbrev pub MeansBy : Bool → List ℕ → Tree → Type 0
MeansBy true text t = tree_of text ≡ Some t
MeansBy false text t = ReadsText (Ok t) text

abbrev pub Means : List ℕ → Tree → Type 0
Means text t = MeansBy (looks_like_xml text) text t

-- why a text means no tree; memory may run out
abbrev pub Unread : List ℕ → TextError → Type 0
Unread text (Xml error) = (looks_like_xml text ≡ true) × Fails error (tree_of text)
Unread text (Json error) = (looks_like_xml text ≡ false) × ReadsText (Err error) text

-- what a refusal says of an error
abbrev pub Tells : List ℕ → TextError → Refusal → Type 0
Tells text (Xml error) r = xml.Tells text error r
Tells text (Json error) r = json.Tells text error r
