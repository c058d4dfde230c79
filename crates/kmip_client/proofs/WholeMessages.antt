-- Messages as trees: how many levels items have, and what a message answers.
use Rattle.std.proofs.Common.{◌≡◌, ℕ, ◌+◌, ◌<◌, ◌≤◌, List, ◌++◌, [], ◌∷◌, length, take, get_or, refl, sym, ap, subst, ◌∙◌, arith, Bool, false, true, cond, Option, Some, None, Result, Ok, Err}
use Rattle.std.specs.Prelude.{nat_le, nat_lt, ◌==◌, IfOk}
use Rattle.std.proofs.Math.Nat.{max-le, le-max_left, le-max_right}
use Rattle.std.proofs.lemmas.Bool.{le-leb, lt-leb, leb-true, leb-false, eqb-true}
use Rattle.std.proofs.lemmas.List.{get_or-take}
use Rattle.std.proofs.lemmas.List.Recursion.{max_bounds}
use Rattle.std.proofs.lemmas.Grind.{take_at_read}
use Rattle.kmip_wire.specs.Tree.{Tree, Scalar, trees_of, scalar, structure, integer, long_integer, big_integer, enumeration, boolean, text_string, byte_string, date_time, interval}
use Rattle.kmip_wire.specs.Kinds.{code_of, kind_of_scalar}
use Rattle.kmip_wire.specs.Head.{head_code, head_length}
use Rattle.kmip_wire.specs.Heads.{within, head_says}
use Rattle.kmip_wire.specs.Parses.{Parses}
use Rattle.kmip_wire.specs.declared.error.HeadError.{HeadError}
use Rattle.kmip_wire.specs.declared.error.HeadError.TheVariants.{NotStructure}
use Rattle.kmip_wire.specs.Bytes.{levels, levels_of_all}
use Rattle.kmip_wire.specs.Reading.{item_of}
use Rattle.kmip_wire.proofs.Levels.{tree_levels}
use Rattle.kmip_client.specs.declared.error.Error.{Error}
use Rattle.kmip_client.specs.Message.{Message, message_at, message_by, Whole}
use Rattle.kmip_client.specs.Headline.{IsReadBy}
use Rattle.kmip_client.specs.Outcome.{reading_failed, writing_failed, answer_by, Gives, Caused, not_valid, given, no_memory}
use Rattle.kmip_client.specs.WholeMessage.{is_message, tree_of_message, whole_answer, IsWholeTree}
use Rattle.kmip_client.proofs.Headlines.{parses_of, computed_of}

-- ---- levels

some_level : (tree : Tree) → 1 ≤ levels tree
some_level (scalar tag s) = omega arith
some_level (structure tag ts) = omega arith

-- no item has no level
pub no_level : (tree : Tree) (most : ℕ) → most ≡ 0 → false ≡ nat_le (levels tree) most
no_level tree most is = sym (lt-leb (levels tree) most (omega (arith, is, some_level tree)))

-- one item more
pub append_within : (trees : List Tree) (tree : Tree) (most : ℕ)
    → levels_of_all (trees_of trees) ≤ most → levels tree ≤ most
    → levels_of_all (trees_of (trees ++ tree ∷ [])) ≤ most
append_within [] tree most all one = max-le one (omega arith)
append_within (t ∷ trees) tree most all one =
    let first : levels t ≤ most =
    omega (arith, le-max_left (levels t) (levels_of_all (trees_of trees)), all) in
    let rest : levels_of_all (trees_of trees) ≤ most =
    omega (arith, le-max_right (levels t) (levels_of_all (trees_of trees)), all) in
    max-le first (append_within trees tree most rest one)

pub more_within : (trees : List Tree) (i : ℕ) (tree : Tree) (most : ℕ) → i < length trees
    → get_or trees i tree ≡ tree → levels_of_all (trees_of (take i trees)) ≤ most
    → true ≡ nat_le (levels tree) most → levels_of_all (trees_of (take (i + 1) trees)) ≤ most
more_within trees i tree most h is before within =
    let P : List Tree → Type 0 = λ us. levels_of_all (trees_of us) ≤ most in
    subst P (sym ((take_at_read trees i tree h).1 ∙ ap (λ u. take i trees ++ (u ∷ [])) is))
    (append_within (take i trees) tree most before (leb-true (levels tree) most (sym within)))

-- one item with more levels is enough
pub one_past : (trees : List Tree) (i : ℕ) (tree : Tree) (most : ℕ) → i < length trees
    → get_or trees i tree ≡ tree → false ≡ nat_le (levels tree) most →
    false ≡ nat_le (levels_of_all (trees_of trees)) most
one_past trees i tree most h is past =
    let one : levels (get_or trees i tree) ≤ levels_of_all (trees_of trees) =
    max_bounds (λ ts. levels_of_all (trees_of ts)) levels refl (λ t ts. refl) trees i tree h in
    sym (lt-leb (levels_of_all (trees_of trees)) most (omega (
      arith,
      one,
      ap levels is,
      leb-false (levels tree) most (sym past),
    )))

-- ---- what a message answers

-- no message answers that the link failed
not_failed : (message : Option Tree) → tree_of_message message ≡ reading_failed → ⊥
not_failed None is = cc
not_failed (Some message) is = cc

pub whole_never_fails : (m : List ℕ) → whole_answer m ≡ reading_failed → ⊥
whole_never_fails m = not_failed (item_of 64 m)

not_written : (message : Option Tree) → tree_of_message message ≡ writing_failed → ⊥
not_written None is = cc
not_written (Some message) is = cc

pub whole_never_writes : (m : List ℕ) → whole_answer m ≡ writing_failed → ⊥
whole_never_writes m = not_written (item_of 64 m)

from_message : (limit : Option ℕ) (rest m : List ℕ) (tree : Tree) (message : Option Tree)
    → message_at rest limit ≡ Whole m → item_of 64 m ≡ message
    → tree_of_message message ≡ Ok tree → IsWholeTree limit rest m tree
from_message limit rest m tree None front is answers = absurd (cc)
from_message limit rest m tree (Some message) front is answers =
    let same : message ≡ tree = cc answers in
    record { front = front; parses = parses_of tree m (is ∙ ap Some same) }

-- a message answers its tree where it parses, and no other
pub whole_valid : (limit : Option ℕ) → IsReadBy whole_answer limit (IsWholeTree limit)
whole_valid limit = record {
  valid = λ rest m tree front answers. from_message limit rest m tree (item_of 64 m) front refl answers;
  front = λ rest m tree it. it.front;
  read = λ rest m tree it. ap tree_of_message (computed_of tree m it.parses);
}

-- ---- the tree that is answered is a message

scalar_code : (s : Scalar) → 2 ≤ code_of (kind_of_scalar s)
scalar_code (integer z) = omega arith
scalar_code (long_integer z) = omega arith
scalar_code (big_integer b) = omega arith
scalar_code (enumeration n) = omega arith
scalar_code (boolean b) = omega arith
scalar_code (text_string b) = omega arith
scalar_code (byte_string b) = omega arith
scalar_code (date_time n) = omega arith
scalar_code (interval n) = omega arith

-- what parses and has the head of a structure is a message
parsed_message : (tree : Tree) (m : List ℕ) → head_code m ≡ 1 → Parses tree 1 m → is_message tree ≡ true
parsed_message (scalar tag s) m is p = absurd (omega (arith, is, p.kind_is, scalar_code s))
parsed_message (structure tag ts) m is p =
    le-leb (levels (structure tag ts)) 64 (omega (arith, tree_levels (structure tag ts) 1 m p))

-- an accepted head is that of a structure, and begins the message
module _ (rest m : List ℕ) (limit : Option ℕ) where
  from_length : (short : Bool) (n : ℕ) → cond short Message.Ended (Whole (take (n + 8) rest)) ≡ Whole m
      → take (n + 8) rest ≡ m
  from_length true n is = absurd (cc)
  from_length false n is = cc is

  from_within : (o : Result ℕ HeadError) → message_by o rest ≡ Whole m → (n : ℕ) × (take (n + 8) rest ≡ m)
  from_within (Err error) is = absurd (cc)
  from_within (Ok n) is = (n, from_length (nat_lt (length rest) (n + 8)) n is)

  from_code : (code : Bool) → (head_code (take 8 rest) == 1) ≡ code
      → message_by (cond code (within (head_length (take 8 rest)) limit) (Err NotStructure)) rest ≡ Whole m
      → head_code m ≡ 1
  from_code false same is = absurd (cc)
  from_code true same is =
      let it = from_within (within (head_length (take 8 rest)) limit) is in
      ap head_code (sym it.1)
      ∙ get_or-take (it.0 + 8) rest 3 0 (omega arith)
      ∙ sym (get_or-take 8 rest 3 0 (omega arith))
      ∙ eqb-true (head_code (take 8 rest)) 1 same

  from_short : (short : Bool)
      → cond short Message.Ended (message_by (head_says (take 8 rest) limit) rest) ≡ Whole m
      → head_code m ≡ 1
  from_short true is = absurd (cc)
  from_short false is = from_code (head_code (take 8 rest) == 1) refl is

  whole_head : message_at rest limit ≡ Whole m → head_code m ≡ 1
  unfolding message_at
  whole_head is = from_short (nat_lt (length rest) 8) is

given_message : (rest : List ℕ) (limit : Option ℕ) (here : Message) (tree : Tree)
    → message_at rest limit ≡ here → answer_by whole_answer here ≡ Ok tree → is_message tree ≡ true
given_message rest limit Message.Ended tree front answers = absurd (cc)
given_message rest limit (Message.Refused error) tree front answers = absurd (cc)
given_message rest limit (Message.Whole m) tree front answers =
    parsed_message tree m (whole_head rest m limit front)
    (from_message limit rest m tree (item_of 64 m) front refl answers).parses

pub front_message : (rest : List ℕ) (limit : Option ℕ) (result : Result Tree Error)
    → Gives (answer_by whole_answer (message_at rest limit)) result
    → IfOk result (λ tree. is_message tree ≡ true)
front_message rest limit (Ok tree) gives = given_message rest limit (message_at rest limit) tree refl (sym gives)
front_message rest limit (Err error) gives = tt

caused_message : {before after : ℕ} (request : Option (List ℕ)) (limit : Option ℕ)
    (answer : Result Tree Error) (tree : Tree)
    → Caused request whole_answer limit before after answer → answer ≡ Ok tree
    → is_message tree ≡ true
caused_message request limit answer tree (not_valid has is) ok = absurd (cc (sym is ∙ ok))
caused_message request limit answer tree (Caused.write_failed has is rose) ok = absurd (cc (sym is ∙ ok))
caused_message request limit answer tree (Caused.read_failed has is rose) ok = absurd (cc (sym is ∙ ok))
caused_message request limit answer tree (given has rest is) ok =
    given_message rest limit (message_at rest limit) tree refl (sym is ∙ ok)
caused_message request limit answer tree (no_memory is) ok = absurd (cc (sym is ∙ ok))

pub answers_message : {before after : ℕ} (request : Option (List ℕ)) (limit : Option ℕ)
    (result : Result Tree Error) → Caused request whole_answer limit before after result
    → IfOk result (λ tree. is_message tree ≡ true)
answers_message request limit (Ok tree) caused = caused_message request limit (Ok tree) tree caused refl
answers_message request limit (Err error) caused = tt
