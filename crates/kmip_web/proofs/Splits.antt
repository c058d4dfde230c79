-- Splitting a listing by line feeds and tabs gives back its fields.
use Rattle.std.proofs.Common.{◌≡◌, refl, sym, ap, ◌∙◌, ℕ, ◌+◌, true, false, List, [], ◌∷◌, ◌++◌, map, append_assoc, codes}
use Rattle.std.proofs.lemmas.List.{append-nil}
use Rattle.std.proofs.lemmas.List.Elements.{All-append, All-cons}
use Rattle.std.proofs.lemmas.List.Splits.{slice_split_at, slice_split_none}
use Rattle.std.specs.List.{All, slice_split}
use Rattle.std.specs.Fmt.{decimal, digits}
use Rattle.kmip_wire.specs.declared.kind.Kind.{Kind}
use Rattle.kmip_wire.specs.declared.kind.Kind.TheVariants.{Structure}
use Rattle.kmip_wire.specs.Kinds.{kind_of_scalar}
use Rattle.kmip_wire.specs.Names.{kind_name}
use Rattle.kmip_wire.specs.Tree.{Tree, Trees, scalar, structure, none, more}
use Rattle.kmip_tags.specs.Tags as tags
use Rattle.kmip_tags.specs.Names.{name_of}
use Rattle.kmip_diag.specs.Lines.{name_text}
use Rattle.kmip_diag.specs.Diagnostic.{Shown, ended, stopped, item, cut_off, shown_within}
use Rattle.kmip_encodings.specs.Sizes.{size_of}
use Rattle.kmip_encodings.specs.Context.{place, named_after}
use Rattle.kmip_web.specs.Listing.{value_text, head_text, listed, all_listed, shown_listed, listing}
use Rattle.kmip_web.specs.Input.{is_feed}
use Rattle.kmip_web.specs.Split.{is_tab, without_last, split_text, fields, closing, item_fields, all_fields, shown_fields, listed_fields}
use Rattle.kmip_web.proofs.Fits.{Fits, digits_fit, name_fits, kind_fits, value_fits, no_tab, no_feed}

-- the parts of all lines, also of the one after the last line feed
abbrev cells : List ℕ → List (List (List ℕ))
cells text = map (slice_split is_tab) (slice_split is_feed text)

-- a text splits into the rows, whatever comes after it
abbrev Splits : List ℕ → List (List (List ℕ)) → Type 0
Splits text rows = (rest : List ℕ) → cells (text ++ rest) ≡ rows ++ cells rest

nothing : Splits [] []
nothing rest = refl

joined : (a b : List ℕ) (r s : List (List (List ℕ))) → Splits a r → Splits b s → Splits (a ++ b) (r ++ s)
joined a b r s h k rest = ap cells (append_assoc a b rest) ∙ h (b ++ rest) ∙ ap (λ x. r ++ x) (k rest)
    ∙ sym (append_assoc r s (cells rest))

-- a line without a line feed, whose parts are known
line : (text : List ℕ) (parts : List (List ℕ)) → All (λ c. is_feed c ≡ false) text
    → slice_split is_tab text ≡ parts → Splits (text ++ codes "\n") (parts ∷ [])
line text parts free e rest =
    ap cells (append_assoc text (codes "\n") rest)
    ∙ ap (map (slice_split is_tab)) (slice_split_at is_feed text 10 rest free refl)
    ∙ ap (λ x. x ∷ cells rest) e

tabbed : (a b : List ℕ) → Fits a → slice_split is_tab (a ++ (codes "\t" ++ b)) ≡ a ∷ slice_split is_tab b
tabbed a b h = slice_split_at is_tab a 9 b (no_tab a h) refl

feedless : (a b : List ℕ) → Fits a → All (λ c. is_feed c ≡ false) b
    → All (λ c. is_feed c ≡ false) (a ++ (codes "\t" ++ b))
feedless a b h k = All-append (λ c. is_feed c ≡ false) a (codes "\t" ++ b) (no_feed a h)
    (All-cons (λ c. is_feed c ≡ false) 9 b refl k)

abbrev five : (a b c d e : List ℕ) → List ℕ
five a b c d e = a ++ (codes "\t" ++ (b ++ (codes "\t" ++ (c ++ (codes "\t" ++ (d ++ (codes "\t" ++ e)))))))

five_parts : (a b c d e : List ℕ) → Fits a → Fits b → Fits c → Fits d → Fits e
    → slice_split is_tab (five a b c d e) ≡ a ∷ b ∷ c ∷ d ∷ e ∷ []
five_parts a b c d e h i j k l =
    tabbed a (b ++ (codes "\t" ++ (c ++ (codes "\t" ++ (d ++ (codes "\t" ++ e)))))) h
    ∙ ap (λ x. a ∷ x) (tabbed b (c ++ (codes "\t" ++ (d ++ (codes "\t" ++ e)))) i
    ∙ ap (λ x. b ∷ x) (tabbed c (d ++ (codes "\t" ++ e)) j
    ∙ ap (λ x. c ∷ x) (tabbed d e k
    ∙ ap (λ x. d ∷ x) (slice_split_none is_tab e (no_tab e l)))))

five_feedless : (a b c d e : List ℕ) → Fits a → Fits b → Fits c → Fits d → Fits e
    → All (λ x. is_feed x ≡ false) (five a b c d e)
five_feedless a b c d e h i j k l =
    feedless a _ h (feedless b _ i (feedless c _ j (feedless d e k (no_feed e l))))

regroup : (a b c d e n : List ℕ)
    → (a ++ (codes "\t" ++ (b ++ (codes "\t" ++ (c ++ (codes "\t" ++ (d ++ codes "\t"))))))) ++ (e ++ n)
    ≡ five a b c d e ++ n
regroup a b c d e n = simp append_assoc

-- the line of an item
item_line : (at tag : ℕ) (kind : Kind) (value : List ℕ) → Fits value
    → Splits (head_text at tag kind ++ (value ++ codes "\n")) (fields at tag kind value ∷ [])
item_line at tag kind value h rest =
    let a = decimal at in let b = digits 16 true tag in
    let c = name_text (name_of tag) in let d = kind_name kind in
    let fa : Fits a = digits_fit 10 false at in let fb : Fits b = digits_fit 16 true tag in
    let fc : Fits c = name_fits tag in let fd : Fits d = kind_fits kind in
    ap (λ x. cells (x ++ rest)) (regroup a b c d value (codes "\n"))
    ∙ line (five a b c d value) (fields at tag kind value)
    (five_feedless a b c d value fa fb fc fd h) (five_parts a b c d value fa fb fc fd h) rest

closing_line : Splits (codes "]\n") (closing ∷ [])
closing_line rest = refl

mutual
  item_splits : (at named : ℕ) (t : Tree) → Splits (listed at named t) (item_fields at named t)
  item_splits at named (scalar tag s) rest =
      item_line at tag (kind_of_scalar s) (value_text (place named tag) s) (value_fits (place named tag) s) rest
  item_splits at named (structure tag ts) rest = ap (λ x. cells (x ++ rest)) (sym (append_assoc (head_text at tag Structure) (codes "\n")
      (all_listed (at + 8) tags.ATTRIBUTE_VALUE ts ++ codes "]\n"))) ∙ joined
      (head_text at tag Structure ++ codes "\n") (all_listed (at + 8) tags.ATTRIBUTE_VALUE ts ++ codes "]\n")
      (fields at tag Structure [] ∷ []) (all_fields (at + 8) tags.ATTRIBUTE_VALUE ts ++ (closing ∷ []))
      (item_line at tag Structure [] refl)
      (joined (all_listed (at + 8) tags.ATTRIBUTE_VALUE ts) (codes "]\n")
      (all_fields (at + 8) tags.ATTRIBUTE_VALUE ts) (closing ∷ [])
      (all_split (at + 8) tags.ATTRIBUTE_VALUE ts) closing_line) rest

  all_split : (at named : ℕ) (ts : Trees) → Splits (all_listed at named ts) (all_fields at named ts)
  all_split at named none = nothing
  all_split at named (more t ts) = joined (listed at named t) (all_listed (at + size_of t) (named_after named t) ts)
      (item_fields at named t) (all_fields (at + size_of t) (named_after named t) ts)
      (item_splits at named t) (all_split (at + size_of t) (named_after named t) ts)

shown_splits : (at named : ℕ) (s : Shown) → Splits (shown_listed at named s) (shown_fields at named s)
shown_splits at named ended rest = refl
shown_splits at named stopped rest = refl
shown_splits at named (item t s) rest = joined (listed at named t) (shown_listed (at + size_of t) (named_after named t) s)
    (item_fields at named t) (shown_fields (at + size_of t) (named_after named t) s)
    (item_splits at named t) (shown_splits (at + size_of t) (named_after named t) s) rest
shown_splits at named (cut_off tag s) rest = ap (λ x. cells (x ++ rest)) (sym (append_assoc (head_text at tag Structure) (codes "\n")
    (shown_listed (at + 8) tags.ATTRIBUTE_VALUE s))) ∙ joined (head_text at tag Structure ++ codes "\n")
    (shown_listed (at + 8) tags.ATTRIBUTE_VALUE s)
    (fields at tag Structure [] ∷ []) (shown_fields (at + 8) tags.ATTRIBUTE_VALUE s)
    (item_line at tag Structure [] refl) (shown_splits (at + 8) tags.ATTRIBUTE_VALUE s) rest

-- ---- the last part is left out

pushed : (rows : List (List (List ℕ))) (last : List (List ℕ)) → without_last (rows ++ (last ∷ [])) ≡ rows
pushed [] last = refl
pushed (r ∷ []) last = refl
pushed (r ∷ s ∷ rows) last = ap (λ x. r ∷ x) (pushed (s ∷ rows) last)

mapped : (f : List ℕ → List (List ℕ)) (xs : List (List ℕ)) → map f (without_last xs) ≡ without_last (map f xs)
mapped f [] = refl
mapped f (x ∷ []) = refl
mapped f (x ∷ y ∷ ys) = ap (λ z. f x ∷ z) (mapped f (y ∷ ys))

before_last : (xs : List (List ℕ)) (rows : List (List (List ℕ))) (f : List ℕ → List (List ℕ)) (last : List (List ℕ))
    → map f xs ≡ rows ++ (last ∷ []) → map f (without_last xs) ≡ rows
before_last xs rows f last e = mapped f xs ∙ ap without_last e ∙ pushed rows last

pub listing_splits : (bytes : List ℕ) → split_text (listing bytes) ≡ listed_fields bytes
unfolding listing listed_fields
listing_splits bytes =
    let s = shown_within 1 bytes in
    let text = shown_listed 0 tags.ATTRIBUTE_VALUE s in
    let rows = shown_fields 0 tags.ATTRIBUTE_VALUE s in
    before_last (slice_split is_feed text) rows (slice_split is_tab) ([] ∷ [])
    (ap cells (sym (append-nil text)) ∙ shown_splits 0 tags.ATTRIBUTE_VALUE s [])
