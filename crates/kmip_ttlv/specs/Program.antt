-- What the program writes for its input.
use Rattle.std.specs.Prelude.{◌≡◌, ℕ, ◌==◌, ◌||◌, ◌&&◌, not, Bool, List, [], ◌∷◌, ◌++◌, Option, Some, None, filter, IsUtf8, if◌then◌else◌, codes, bytes_eq}
use Rattle.std.specs.Option.{unwrap_or}
use Rattle.std.specs.Result.{result_ok}
use Rattle.hex.specs.Hex.{decode_of, encode_upper}
use Rattle.kmip_wire.specs.Tree.{Tree}
use Rattle.kmip_wire.specs.Bytes.{bytes}
use Rattle.kmip_wire.specs.Parses.{Parses}
use Rattle.kmip_encodings.specs.Encoding.{json_text}
use Rattle.kmip_encodings.specs.Xml.{xml_of}
use Rattle.kmip_xml.specs.Texts.{Means, Unread}
use Rattle.kmip_ttlv.specs.declared.program.Command.{Command}
use Rattle.kmip_ttlv.specs.declared.program.Command.TheVariants as commands
use Rattle.kmip_ttlv.specs.declared.program.Failure.{Failure}
use Rattle.kmip_ttlv.specs.declared.program.Failure.TheVariants as failures

-- what the words ask for: `decode`, `decode xml` or `encode`
abbrev pub command_of : List (List ℕ) → Option Command
command_of (word ∷ []) =
    if bytes_eq word (codes "decode") then Some commands.DecodeJson
    else if bytes_eq word (codes "encode") then Some commands.Encode
    else None
command_of (word ∷ form ∷ []) =
    if bytes_eq word (codes "decode") && bytes_eq form (codes "xml") then Some commands.DecodeXml
    else None
command_of words = None

abbrev pub is_mark : ℕ → Bool
is_mark c = not ((c == 32) || ((c == 9) || ((c == 10) || (c == 13))))

-- the bytes that the input spells in hex, with white space anywhere; or else the input itself
abbrev pub bytes_in : List ℕ → List ℕ
bytes_in input = unwrap_or (result_ok (decode_of (filter is_mark input))) input

-- why the bytes are not read as one item
abbrev pub WholeFails : List ℕ → Failure → Type 0
WholeFails b failures.NotItem = (t : Tree) → Parses t 1 b → ⊥
WholeFails b failures.NotText = ⊥
WholeFails b (failures.Unread error) = ⊥
WholeFails b failures.NoForm = ⊥
WholeFails b failures.OutOfMemory = Unit {0}

-- the whole of the input is one item, and the output is its text and a line feed
abbrev pub Decodes : (Tree → List ℕ) → List ℕ → List ℕ → Type 0
Decodes text input output =
    (t : Tree) × Parses t 1 (bytes_in input) × (output ≡ text t ++ 10 ∷ [])

-- the input means a tree, in XML or JSON, and the output is its canonical bytes in hex and a line
-- feed
abbrev pub Encodes : List ℕ → List ℕ → Type 0
Encodes input output =
    (t : Tree) × Means input t
    × ((b : List ℕ) × (bytes t ≡ Some b) × (output ≡ encode_upper b ++ 10 ∷ []))

abbrev pub Writes : Command → List ℕ → List ℕ → Type 0
Writes commands.DecodeJson input output = Decodes json_text input output
Writes commands.DecodeXml input output = Decodes xml_of input output
Writes commands.Encode input output = Encodes input output

-- why there is no output; memory may run out
abbrev pub Fails : List ℕ → Failure → Type 0
Fails input failures.NotItem = (t : Tree) → Parses t 1 (bytes_in input) → ⊥
Fails input failures.NotText = ¬ IsUtf8 input
Fails input (failures.Unread error) = Unread input error
Fails input failures.NoForm = (t : Tree) × Means input t × (bytes t ≡ None)
Fails input failures.OutOfMemory = Unit {0}

-- the program's name, a reason and a line feed
abbrev pub IsMessage : List ℕ → Type 0
IsMessage text = (why : List ℕ) × (text ≡ codes "kmip_ttlv: " ++ why ++ codes "\n")
