-- Comments, declarations, attributes and the ends of tags (XML 1.0, 2.5, 2.8, 3 and 3.1).
use Rattle.std.specs.Prelude.{ℕ, zero, suc, ◌+◌, ◌==◌, Bool, true, false, List, [], ◌∷◌, length, take, drop, codes, Option, Some, None, is_some, if◌then◌else◌, bytes_eq}
use Rattle.kmip_xml.specs.declared.attributes.Attributes.{Attributes}
use Rattle.kmip_xml.specs.Given.{◌>>=◌}
use Rattle.kmip_xml.specs.Scan.{trimmed, spaced, after, around, word}
use Rattle.kmip_xml.specs.Values.{value_of}

-- what follows the first `--`
abbrev pub after_dashes_by : Option (List ℕ) → Option (List ℕ) → Option (List ℕ)
after_dashes_by (Some rest) later = Some rest
after_dashes_by None later = later

abbrev pub after_dashes : List ℕ → Option (List ℕ)
after_dashes [] = None
after_dashes (c ∷ s) = after_dashes_by (after (codes "--") (c ∷ s)) (after_dashes s)

-- what follows a comment, of which `<!--` was read: no `--` stands in it
unfoldable pub comment : List ℕ → Option (List ℕ)
comment s = do
  rest ← after_dashes s
  after (codes ">") rest

abbrev pub declared_by : List ℕ → Option (List ℕ) → Option (List ℕ)
declared_by s None = Some s
declared_by s (Some inner) = do
  rest ← spaced inner
  parts ← around 63 rest
  after (codes ">") parts.1

-- what follows a declaration `<?xml ..?>`, where the text begins with one
unfoldable pub declared : List ℕ → Option (List ℕ)
declared s = declared_by s (after (codes "<?xml") s)

-- what stands between two quotes of one kind
abbrev pub quoted_by : Option (List ℕ) → Option (List ℕ) → Option (List ℕ × List ℕ)
quoted_by (Some s) single = around 34 s
quoted_by None (Some s) = around 39 s
quoted_by None None = None

abbrev pub quoted : List ℕ → Option (List ℕ × List ℕ)
quoted s = quoted_by (after (codes "\"") s) (after (codes "'") s)

-- what follows `=`, with white space round it
abbrev pub equals : List ℕ → Option (List ℕ)
equals s = do
  rest ← after (codes "=") (trimmed s)
  Some (trimmed rest)

-- the attribute's value, where it has none so far
abbrev pub once : Option (List ℕ) → List ℕ → Option (Option (List ℕ))
once None value = Some (Some value)
once (Some other) value = None

abbrev pub no_attributes : Attributes
no_attributes = record { tag = None; kind = None; value = None; name = None }

-- the attributes with one more, which is none of them so far
unfoldable pub put : List ℕ → List ℕ → Attributes → Option Attributes
put key value a =
    if bytes_eq key (codes "tag") then (do
      tag ← once a.tag value
      Some (record { tag = tag; kind = a.kind; value = a.value; name = a.name }))
    else if bytes_eq key (codes "type") then (do
      kind ← once a.kind value
      Some (record { tag = a.tag; kind = kind; value = a.value; name = a.name }))
    else if bytes_eq key (codes "value") then (do
      one ← once a.value value
      Some (record { tag = a.tag; kind = a.kind; value = one; name = a.name }))
    else if bytes_eq key (codes "name") then (do
      name ← once a.name value
      Some (record { tag = a.tag; kind = a.kind; value = a.value; name = name }))
    else None

-- the attributes with the one at the front
unfoldable pub attribute : Attributes → List ℕ → Option (Attributes × List ℕ)
attribute a s = do
  rest ← equals (word s).1
  parts ← quoted rest
  value ← value_of parts.0
  more ← put (word s).0 value a
  Some (more, parts.1)

-- `>`, or `/>` of an element that is empty
abbrev pub tag_end_by : Option (List ℕ) → Option (List ℕ) → Option (Bool × List ℕ)
tag_end_by (Some rest) other = Some (true, rest)
tag_end_by None (Some rest) = Some (false, rest)
tag_end_by None None = None

unfoldable pub tag_end : List ℕ → Option (Bool × List ℕ)
tag_end s = tag_end_by (after (codes "/>") s) (after (codes ">") s)

-- at most so many attributes more, each behind white space, and then the tag's end
unfoldable pub attributes : ℕ → Attributes → List ℕ → Option (Attributes × List ℕ)
attributes zero a s = if is_some (tag_end (trimmed s)) then Some (a, trimmed s) else None
attributes (suc n) a s =
    if is_some (tag_end (trimmed s)) then Some (a, trimmed s) else (do
      rest ← spaced s
      one ← attribute a rest
      attributes n one.0 one.1)

-- what follows the tag that ends the element of this name
unfoldable pub end_tag : List ℕ → List ℕ → Option (List ℕ)
end_tag name s = do
  inner ← after (codes "</") s
  rest ← after name inner
  after (codes ">") (trimmed rest)
