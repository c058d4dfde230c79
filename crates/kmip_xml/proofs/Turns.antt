-- Reading the contents of an element turn by turn, as the loop does, and elements of so many levels.
use Rattle.std.proofs.Common.{◌≡◌, ℕ, zero, suc, ◌+◌, ◌-◌, ◌<◌, ◌≤◌, List, [], ◌∷◌, ◌++◌, Option, Some, None, option_map, refl, sym, ap, subst, ◌∙◌, append_assoc, append-nil, arith}
use Rattle.kmip_wire.specs.Tree.{Tree}
use Rattle.kmip_encodings.specs.Context.{named_after}
use Rattle.kmip_xml.specs.declared.error.XmlError.{XmlError}
use Rattle.kmip_xml.specs.declared.error.XmlError.TheVariants as errors
use Rattle.kmip_xml.specs.declared.read.Turn.{Turn}
use Rattle.kmip_xml.specs.declared.read.Turn.TheVariants.{End, Comment, Item}
use Rattle.kmip_xml.specs.Given.{◌>>=◌, Fails}
use Rattle.kmip_xml.specs.Reading.{Read, Adds, Start, turn, onward, contents, item, start, inner, whole}

-- items that were read before, and what is still read
abbrev pub onto : List Tree → Option (List Tree × List ℕ) → Option (List Tree × List ℕ)
onto front read = read >>= λ x. Some (front ++ x.0, x.1)

regroup : (front : List Tree) (t : Tree) (read : Option (List Tree × List ℕ))
    → onto front (read >>= λ x. Some (t ∷ x.0, x.1)) ≡ onto (front ++ t ∷ []) read
regroup front t (Some x) = ap (λ (ts : List Tree). Some (ts, x.1)) (simp append_assoc)
regroup front t None = refl

one_turn : (one : ℕ → Read Tree) (count i named : ℕ) (s : List ℕ) (found : Turn) (after : List ℕ)
    → i < count → turn (one named) s ≡ Some (found, after)
    → contents one (count - i) named s ≡ onward (contents one (count - (i + 1))) named found after
unfolding contents
one_turn one count i named s found after lt h =
    let k : count - i ≡ suc (count - (i + 1)) = omega arith in rw (k, h) refl

at_item : (one : ℕ → Read Tree) (front : List Tree) (count i named later : ℕ) (s : List ℕ)
    (t : Tree) (after : List ℕ) (total : Option (List Tree × List ℕ))
    → i < count → turn (one named) s ≡ Some (Item t, after) → later ≡ named_after named t
    → onto front (contents one (count - i) named s) ≡ total
    → onto (front ++ t ∷ []) (contents one (count - (i + 1)) later after) ≡ total
at_item one front count i named later s t after total lt h e so_far =
    ap (λ n. onto (front ++ t ∷ []) (contents one (count - (i + 1)) n after)) e
    ∙ sym (regroup front t (contents one (count - (i + 1)) (named_after named t) after))
    ∙ sym (ap (onto front) (one_turn one count i named s (Item t) after lt h)) ∙ so_far

at_comment : (one : ℕ → Read Tree) (front : List Tree) (count i named : ℕ) (s after : List ℕ)
    (total : Option (List Tree × List ℕ))
    → i < count → turn (one named) s ≡ Some (Comment, after)
    → onto front (contents one (count - i) named s) ≡ total
    → onto front (contents one (count - (i + 1)) named after) ≡ total
at_comment one front count i named s after total lt h so_far =
    sym (ap (onto front) (one_turn one count i named s Comment after lt h)) ∙ so_far

at_end : (one : ℕ → Read Tree) (front : List Tree) (count i named : ℕ) (s after : List ℕ)
    (total : Option (List Tree × List ℕ))
    → i < count → turn (one named) s ≡ Some (End, after)
    → onto front (contents one (count - i) named s) ≡ total → total ≡ Some (front, after)
at_end one front count i named s after total lt h so_far =
    sym so_far ∙ ap (onto front) (one_turn one count i named s End after lt h)
    ∙ ap (λ (ts : List Tree). Some (ts, after)) (append-nil front)

same_number : (x y : ℕ) → Some x ≡ Some y → x ≡ y
same_number x y e = cc

pub on_turn : (one : ℕ → Read Tree) (front : List Tree) (count i named : ℕ) (s : List ℕ)
    (found : Turn) (after : List ℕ) (later : List Tree) (next : ℕ)
    (total : Option (List Tree × List ℕ)) → i < count → turn (one named) s ≡ Some (found, after)
    → Adds front named found later (Some next) → onto front (contents one (count - i) named s) ≡ total
    → onto later (contents one (count - (i + 1)) next after) ≡ total
on_turn one front count i named s End after later next total lt h adds so_far = absurd cc
on_turn one front count i named s Comment after later next total lt h adds so_far =
    rw (adds.0, same_number next named adds.1) (at_comment one front count i named s after total lt h so_far)
on_turn one front count i named s (Item t) after later next total lt h adds so_far =
    rw adds.0 (at_item one front count i named next s t after total lt h
    (same_number next (named_after named t) adds.1) so_far)

pub on_last : (one : ℕ → Read Tree) (front : List Tree) (count i named : ℕ) (s : List ℕ)
    (found : Turn) (after : List ℕ) (later : List Tree) (total : Option (List Tree × List ℕ))
    → i < count → turn (one named) s ≡ Some (found, after) → Adds front named found later None
    → onto front (contents one (count - i) named s) ≡ total → total ≡ Some (later, after)
on_last one front count i named s End after later total lt h adds so_far =
    rw adds.0 (at_end one front count i named s after total lt h so_far)
on_last one front count i named s Comment after later total lt h adds so_far = absurd cc
on_last one front count i named s (Item t) after later total lt h adds so_far = absurd cc

pub turn_fails : (e : XmlError) (one : ℕ → Read Tree) (front : List Tree) (count i named : ℕ)
    (s : List ℕ) (total : Option (List Tree × List ℕ)) → i < count → Fails e (turn (one named) s)
    → onto front (contents one (count - i) named s) ≡ total → Fails e total
unfolding contents
turn_fails errors.OutOfMemory one front count i named s total lt h so_far = tt
turn_fails (errors.Misfit m) one front count i named s total lt h so_far =
    let k : count - i ≡ suc (count - (i + 1)) = omega arith in
    let one_none : onto front (contents one (count - i) named s) ≡ None = rw (k, h) refl in
    sym so_far ∙ one_none

pub no_turns : (one : ℕ → Read Tree) (front : List Tree) (count i named : ℕ) (s : List ℕ)
    (total : Option (List Tree × List ℕ)) → count ≤ i
    → onto front (contents one (count - i) named s) ≡ total → total ≡ None
unfolding contents
no_turns one front count i named s total le so_far =
    let k : count - i ≡ 0 = omega arith in
    let none : onto front (contents one (count - i) named s) ≡ None = rw k refl in
    sym so_far ∙ none

pub begun : (read : Option (List Tree × List ℕ)) → onto [] read ≡ read
begun (Some x) = refl
begun None = refl

-- ---- what does not read on

pub fails_on : {A B : Type 0} (e : XmlError) (read : Option A) (f : A → Option B) → Fails e read
    → Fails e (read >>= f)
fails_on errors.OutOfMemory read f h = tt
fails_on (errors.Misfit m) read f h = rw h refl

-- ---- an element

pub no_level : (levels named : ℕ) (s : List ℕ) → levels ≡ 0 → item levels named s ≡ None
unfolding item
no_level levels named s e = rw e refl

-- what is read behind the start of an element, and behind its items
abbrev pub within : Start → List Tree × List ℕ → Option (Tree × List ℕ)
within a ts = whole a.tag a.leaf ts.0 >>= λ t. Some (t, ts.1)

abbrev pub begun_with : ℕ → Start × List ℕ → Option (Tree × List ℕ)
begun_with levels a = inner (item levels) a.0.name a.0.closed a.1 >>= within a.0

pub a_level : (levels named : ℕ) (s : List ℕ) → (levels ≡ 0 → ⊥)
    → item levels named s ≡ (start named s >>= begun_with (levels - 1))
unfolding item
a_level zero named s h = absurd (h refl)
a_level (suc n) named s h = let e : suc n - 1 ≡ n = omega arith in rw e refl

pub inner_fails : (e : XmlError) (levels named : ℕ) (s : List ℕ) (a : Start) (rest : List ℕ)
    → (levels ≡ 0 → ⊥) → start named s ≡ Some (a, rest)
    → Fails e (inner (item (levels - 1)) a.name a.closed rest) → Fails e (item levels named s)
inner_fails e levels named s a rest h begins fails =
    subst (λ (read : Option (Tree × List ℕ)). Fails e read)
    (sym (a_level levels named s h ∙ ap (λ o. o >>= begun_with (levels - 1)) begins))
    (fails_on e (inner (item (levels - 1)) a.name a.closed rest) (within a) fails)

at_inner : (levels named : ℕ) (s : List ℕ) (a : Start) (rest : List ℕ) (items : List Tree)
    (behind : List ℕ) → (levels ≡ 0 → ⊥) → start named s ≡ Some (a, rest)
    → inner (item (levels - 1)) a.name a.closed rest ≡ Some (items, behind)
    → item levels named s ≡ within a (items, behind)
at_inner levels named s a rest items behind h begins has =
    a_level levels named s h ∙ ap (λ o. o >>= begun_with (levels - 1)) begins
    ∙ ap (λ o. o >>= within a) has

pub whole_none : (levels named : ℕ) (s : List ℕ) (a : Start) (rest : List ℕ) (items : List Tree)
    (behind : List ℕ) → (levels ≡ 0 → ⊥) → start named s ≡ Some (a, rest)
    → inner (item (levels - 1)) a.name a.closed rest ≡ Some (items, behind)
    → None ≡ whole a.tag a.leaf items → item levels named s ≡ None
whole_none levels named s a rest items behind h begins has none =
    at_inner levels named s a rest items behind h begins has
    ∙ ap (λ o. o >>= λ (t : Tree). Some (t, behind)) (sym none)

pub item_read : (levels named : ℕ) (s : List ℕ) (a : Start) (rest : List ℕ) (items : List Tree)
    (behind : List ℕ) (tree : Tree) → (levels ≡ 0 → ⊥) → start named s ≡ Some (a, rest)
    → inner (item (levels - 1)) a.name a.closed rest ≡ Some (items, behind)
    → Some tree ≡ whole a.tag a.leaf items → item levels named s ≡ Some (tree, behind)
item_read levels named s a rest items behind tree h begins has is_whole =
    at_inner levels named s a rest items behind h begins has
    ∙ ap (λ o. o >>= λ (t : Tree). Some (t, behind)) (sym is_whole)
