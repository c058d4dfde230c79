-- What a text of XML means as a tree (KMIP Additional Message Encodings 1.0, XML; XML 1.0, 2.1).
use Rattle.std.specs.Prelude.{◌≡◌, ℕ, zero, suc, ◌==◌, ◌||◌, ◌&&◌, Bool, true, false, List, [], ◌∷◌, ◌++◌, length, codes, Option, Some, None, is_some, if◌then◌else◌, bytes_eq, option_map}
use Rattle.std.specs.List.{list_all}
use Rattle.std.specs.Str.{chars}
use Rattle.kmip_wire.specs.declared.kind.Kind.{Kind}
use Rattle.kmip_wire.specs.declared.kind.Kind.TheVariants.{Structure, Integer, LongInteger, BigInteger, Enumeration, Boolean, TextString, ByteString, DateTime, Interval}
use Rattle.kmip_wire.specs.Tree.{Tree, scalar, structure, trees_of}
use Rattle.kmip_tags.specs.Tags as tags
use Rattle.kmip_encodings.specs.Words.{tag_named}
use Rattle.kmip_encodings.specs.Context.{place, named_after}
use Rattle.kmip_encodings.specs.Reading.{tag_of_text, kind_named}
use Rattle.kmip_encodings.specs.XmlGrammar.{is_xml_char}
use Rattle.kmip_xml.specs.declared.attributes.Attributes.{Attributes}
use Rattle.kmip_xml.specs.declared.start.Start as code
use Rattle.kmip_xml.specs.declared.read.Turn.{Turn}
use Rattle.kmip_xml.specs.declared.read.Turn.TheVariants.{End, Comment, Item}
use Rattle.kmip_xml.specs.Given.{◌>>=◌}
use Rattle.kmip_xml.specs.Scan.{trimmed, after, word}
use Rattle.kmip_xml.specs.Markup.{no_attributes, comment, declared, tag_end, attributes, end_tag}
use Rattle.kmip_xml.specs.Scalars.{scalar_of}

-- the tag of the element's name; of `TTLV` that of the attribute, which no other has
unfoldable pub tag_in : List ℕ → Option (List ℕ) → Option ℕ
tag_in name (Some text) = if bytes_eq name (codes "TTLV") then tag_of_text text else None
tag_in name None = tag_named name

-- Structure where there is no such attribute
unfoldable pub kind_in : Option (List ℕ) → Option Kind
kind_in None = Some Structure
kind_in (Some text) = kind_named text

abbrev pub scalar_tree : ℕ → ℕ → Kind → Option (List ℕ) → Option (Option Tree)
scalar_tree named tag kind None = None
scalar_tree named tag kind (Some text) =
    option_map (λ s. Some (scalar tag s)) (scalar_of (place named tag) kind text)

abbrev pub no_value : Option (List ℕ) → Option (Option Tree)
no_value None = Some None
no_value (Some text) = None

-- the item where it is no structure, which has no value
unfoldable pub leaf : ℕ → ℕ → Kind → Option (List ℕ) → Option (Option Tree)
leaf named tag Structure value = no_value value
leaf named tag kind value = scalar_tree named tag kind value

-- the tag that starts an element
pub record Start : Type 0 where
  pub name : List ℕ
  pub tag : ℕ
  pub leaf : Option Tree
  pub closed : Bool

abbrev pub start_of : code.Start → Start
start_of s = record { name = s.name.now; tag = s.tag; leaf = s.leaf; closed = s.closed }

unfoldable pub head : ℕ → List ℕ → Attributes → Bool → Option Start
head named name a closed = do
  tag ← tag_in name a.tag
  kind ← kind_in a.kind
  leaf ← leaf named tag kind a.value
  Some (record { name = name; tag = tag; leaf = leaf; closed = closed })

-- the tag of which `<` was read
unfoldable pub start : ℕ → List ℕ → Option (Start × List ℕ)
start named s =
    if length (word s).0 == 0 then None else (do
      a ← attributes 4 no_attributes (word s).1
      e ← tag_end a.1
      h ← head named (word s).0 a.0 e.0
      Some (h, e.1))

-- the element of a start tag and its items, which only a structure has
abbrev pub whole : ℕ → Option Tree → List Tree → Option Tree
whole tag None ts = Some (structure tag (trees_of ts))
whole tag (Some t) [] = Some t
whole tag (Some t) (u ∷ us) = None

-- what is read at the front, and what follows it
abbrev pub Read : Type 0 → Type 0
Read A = List ℕ → Option (A × List ℕ)

-- the end of the text, or of the element around
abbrev pub is_end : List ℕ → Bool
is_end s = (length s == 0) || is_some (after (codes "</") s)

abbrev pub turn_by : Read Tree → List ℕ → Option (List ℕ) → Option (Turn × List ℕ)
turn_by one s (Some inner) = do
  rest ← comment inner
  Some (Comment, rest)
turn_by one s None =
    if is_end s then Some (End, s) else (do
      inner ← after (codes "<") s
      t ← one inner
      Some (Item t.0, t.1))

-- a comment, an element or the end, behind white space
unfoldable pub turn : Read Tree → Read Turn
turn one s = turn_by one (trimmed s) (after (codes "<!--") (trimmed s))

abbrev pub onward : (ℕ → Read (List Tree)) → ℕ → Turn → Read (List Tree)
onward rest named End s = Some ([], s)
onward rest named Comment s = rest named s
onward rest named (Item t) s = do
  ts ← rest (named_after named t) s
  Some (t ∷ ts.0, ts.1)

-- Elements and comments up to the end. The number bounds the turns: the length of a text that has an
-- end is always enough, since each takes something from it.
unfoldable pub contents : (ℕ → Read Tree) → ℕ → ℕ → Read (List Tree)
contents one zero named s = None
contents one (suc n) named s = do
  t ← turn (one named) s
  onward (contents one n) named t.0 t.1

abbrev pub all_contents : (ℕ → Read Tree) → Read (List Tree)
all_contents one s = contents one (length s) tags.ATTRIBUTE_VALUE s

-- what an element has in it
unfoldable pub inner : (ℕ → Read Tree) → List ℕ → Bool → Read (List Tree)
inner one name closed s =
    if closed then Some ([], s) else (do
      ts ← all_contents one s
      rest ← end_tag name ts.1
      Some (ts.0, rest))

-- an element of at most so many levels, whose `<` was read; its names are looked up as the items
-- before it say
unfoldable pub item : ℕ → ℕ → Read Tree
item zero named s = None
item (suc levels) named s = do
  a ← start named s
  ts ← inner (item levels) a.0.name a.0.closed a.1
  t ← whole a.0.tag a.0.leaf ts.0
  Some (t, ts.1)

-- one element, and nothing after it
abbrev pub only : List Tree → List ℕ → Option Tree
only (t ∷ []) [] = Some t
only ts s = None

-- the tree that a text of XML means: characters of XML (2.2), a declaration or none, and one element
-- of at most 64 levels with comments and white space round it
unfoldable pub tree_of : List ℕ → Option Tree
tree_of text =
    if list_all is_xml_char (chars text) then (do
      s ← declared text
      ts ← all_contents (item 64) s
      only ts.0 ts.1)
    else None

-- what is added to the items before it, and where names are looked up then; nothing at the end
abbrev pub Adds : List Tree → ℕ → Turn → List Tree → Option ℕ → Type 0
Adds before named End after next = (after ≡ before) × (next ≡ None)
Adds before named Comment after next = (after ≡ before) × (next ≡ Some named)
Adds before named (Item t) after next =
    (after ≡ before ++ t ∷ []) × (next ≡ Some (named_after named t))
