-- The frame at the front, and the frames behind it.
use Rattle.std.proofs.Common.{◌≡◌, ℕ, zero, suc, ◌+◌, ◌<◌, ◌≤◌, List, [], ◌∷◌, ◌++◌, length, take, drop, refl, ◌∙◌, ap, sym, arith, Option, Some, None, Bool, true, false, cond, Result, Ok, Err}
use Rattle.std.specs.Prelude.{nat_lt, ◌==◌}
use Rattle.std.proofs.lemmas.List.{length-take-le, length-drop, length-append, take-append-drop, take-append-le}
use Rattle.std.proofs.lemmas.Bool.Decides.{nat_tests}
use Rattle.kmip_wire.specs.Head.{head_code, head_length}
use Rattle.kmip_wire.specs.Heads.{within, head_says}
use Rattle.kmip_wire.specs.Parses.{joined_texts}
use Rattle.kmip_wire.specs.declared.error.HeadError.{HeadError}
use Rattle.kmip_client.specs.Message.{Message, Ended, Refused, Whole, message_at}
use Rattle.kmip_client.proofs.Messages.{message_short, message_refused, message_cut, message_whole}
use Rattle.kmip_audit.specs.Frames.{frame_of, front_frame, after_frame, then_frames, frames_by, frames}

-- ---- the frame at the front, by what its head says

pub front_short : (b : List ℕ) → length b < 8 → front_frame b ≡ None
unfolding front_frame
front_short b h = ap frame_of (message_short b None h)

pub front_refused : (b : List ℕ) (error : HeadError) → 8 ≤ length b
    → head_says (take 8 b) None ≡ Err error → front_frame b ≡ None
unfolding front_frame
front_refused b error h says = ap frame_of (message_refused b None error h says)

pub front_torn : (b : List ℕ) (n : ℕ) → 8 ≤ length b → head_says (take 8 b) None ≡ Ok n
    → length b < n + 8 → front_frame b ≡ None
unfolding front_frame
front_torn b n h says short = ap frame_of (message_cut b None n h says short)

pub front_whole : (b : List ℕ) (n : ℕ) → 8 ≤ length b → head_says (take 8 b) None ≡ Ok n
    → n + 8 ≤ length b → front_frame b ≡ Some (take (n + 8) b)
unfolding front_frame
front_whole b n h says enough = ap frame_of (message_whole b None n h says enough)

-- ---- a whole message at the front, by its head

pub record Headed (limit : Option ℕ) (b m : List ℕ) : Type 0 where
  pub contents : ℕ
  pub enough : 8 ≤ length b
  pub says : head_says (take 8 b) limit ≡ Ok contents
  pub whole : contents + 8 ≤ length b
  pub is : m ≡ take (contents + 8) b

whole_same : {x y : List ℕ} → Whole x ≡ Whole y → y ≡ x
whole_same h = cc

no_end : {x : List ℕ} {A : Type 0} → Ended ≡ Whole x → A
no_end h = absurd (cc)

no_refusal : {x : List ℕ} {error : HeadError} {A : Type 0} → Refused error ≡ Whole x → A
no_refusal h = absurd (cc)

pub headed : (b m : List ℕ) (limit : Option ℕ) → message_at b limit ≡ Whole m → Headed limit b m
headed b m limit is = short (nat_lt (length b) 8) refl
  where
    whole : (n : ℕ) (t : Bool) → nat_lt (length b) (n + 8) ≡ t → 8 ≤ length b
        → head_says (take 8 b) limit ≡ Ok n → Headed limit b m
    whole n true e h says =
        let cut : length b < n + 8 = grind (arith, nat_tests) in
        no_end (sym (message_cut b limit n h says cut) ∙ is)
    whole n false e h says =
        let enough : n + 8 ≤ length b = grind (arith, nat_tests) in
        record {
          contents = n;
          enough = h;
          says = says;
          whole = enough;
          is =
              whole_same (sym (message_whole b limit n h says enough) ∙ is);
        }

    by_head : (head : Result ℕ HeadError) → head_says (take 8 b) limit ≡ head → 8 ≤ length b → Headed limit b m
    by_head (Ok n) says h = whole n (nat_lt (length b) (n + 8)) refl h says
    by_head (Err error) says h = no_refusal (sym (message_refused b limit error h says) ∙ is)

    short : (t : Bool) → nat_lt (length b) 8 ≡ t → Headed limit b m
    short true e = let n : length b < 8 = grind (arith, nat_tests) in no_end (sym (message_short b limit n) ∙ is)
    short false e = by_head (head_says (take 8 b) limit) refl (grind (arith, nat_tests))

frame_is : (x : Message) (m : List ℕ) → frame_of x ≡ Some m → x ≡ Whole m
frame_is Ended m h = absurd (cc)
frame_is (Refused error) m h = absurd (cc)
frame_is (Whole n) m h = cc

pub front_headed : (b m : List ℕ) → front_frame b ≡ Some m → Headed None b m
unfolding front_frame
front_headed b m is = headed b m None (frame_is (message_at b None) m is)

-- ---- a frame is a front of the bytes, of eight at least

pub record Falls (b m : List ℕ) : Type 0 where
  pub some : 8 ≤ length m
  pub within : length m ≤ length b
  pub front : m ≡ take (length m) b

pub headed_falls : {limit : Option ℕ} {b m : List ℕ} → Headed limit b m → Falls b m
headed_falls {b = b} {m = m} h =
    let l : length m ≡ h.contents + 8 = ap length h.is ∙ length-take-le (h.contents + 8) b h.whole in
    record { some = omega arith; within = omega (arith, h.whole); front = h.is ∙ ap (λ k. take k b) (sym l) }

pub falls : (b m : List ℕ) → front_frame b ≡ Some m → Falls b m
falls b m is = headed_falls (front_headed b m is)

-- ---- a frame that bytes follow, and that of a message under a limit

abbrev Said : Type 0
Said = Result ℕ HeadError

within_by : (t : Bool) (n k most : ℕ)
    → ◌≡◌ {A = Said} (cond t (Err (HeadError.TooLong (n + 8) most)) (Ok n)) (Ok k)
    → ◌≡◌ {A = Said} (Ok n) (Ok k)
within_by true n k most h = absurd (cc)
within_by false n k most h = h

unlimited_by : (code : Bool) (n k : ℕ) (limit : Option ℕ)
    → ◌≡◌ {A = Said} (cond code (within n limit) (Err HeadError.NotStructure)) (Ok k)
    → ◌≡◌ {A = Said} (cond code (within n None) (Err HeadError.NotStructure)) (Ok k)
unlimited_by false n k limit h = absurd (cc)
unlimited_by true n k None h = h
unlimited_by true n k (Some most) h = within_by (nat_lt most (n + 8)) n k most h

unlimited : (b : List ℕ) (k : ℕ) (limit : Option ℕ) → head_says b limit ≡ Ok k → head_says b None ≡ Ok k
unlimited b k limit h = unlimited_by (head_code b == 1) (head_length b) k limit h

-- the first bytes of a front that is long enough
first_same : (n : ℕ) (b m : List ℕ) → n ≤ length m → m ≡ take (length m) b → take n m ≡ take n b
first_same n b m h front =
    sym (take-append-le n m (drop (length m) b) h) ∙ ap (λ l. take n (l ++ drop (length m) b)) front
    ∙ ap (take n) (take-append-drop (length m) b)

pub take_all : (m : List ℕ) (n : ℕ) → length m ≡ n → take n m ≡ m
take_all [] zero h = refl
take_all [] (suc n) h = refl
take_all (x ∷ xs) zero h = absurd (omega arith)
take_all (x ∷ xs) (suc n) h = ap (λ l. x ∷ l) (take_all xs n (omega arith))

-- a message stands at its own front, whatever limit it was read under
pub message_frame : (b m : List ℕ) (limit : Option ℕ) → message_at b limit ≡ Whole m → front_frame m ≡ Some m
message_frame b m limit is =
    let h = headed b m limit is in
    let f = headed_falls h in
    let l : length m ≡ h.contents + 8 = ap length h.is ∙ length-take-le (h.contents + 8) b h.whole in
    let says : head_says (take 8 m) None ≡ Ok h.contents =
    ap (λ d. head_says d None) (first_same 8 b m f.some f.front)
    ∙ unlimited (take 8 b) h.contents limit h.says in
    front_whole m h.contents f.some says (omega arith) ∙ ap Some (take_all m (h.contents + 8) l)

pub frame_before : (m rest : List ℕ) → front_frame m ≡ Some m → front_frame (m ++ rest) ≡ Some m
frame_before m rest is =
    let h = front_headed m m is in
    let longer : length (m ++ rest) ≡ length m + length rest = length-append m rest in
    let says : head_says (take 8 (m ++ rest)) None ≡ Ok h.contents =
    ap (λ d. head_says d None) (take-append-le 8 m rest h.enough) ∙ h.says in
    front_whole (m ++ rest) h.contents (omega (arith, h.enough)) says (omega (arith, h.whole))
    ∙ ap Some (take-append-le (h.contents + 8) m rest h.whole ∙ sym h.is)

-- ---- fuel

frames_fuel : (n k : ℕ) (b : List ℕ) → length b ≤ n → length b ≤ k → frames_by n b ≡ frames_by k b
frames_fuel zero zero b h g = refl
frames_fuel zero (suc k) [] h g = let e : front_frame [] ≡ None = front_short [] (omega arith) in rw e refl
frames_fuel zero (suc k) (x ∷ xs) h g = absurd (omega arith)
frames_fuel (suc n) zero [] h g = let e : front_frame [] ≡ None = front_short [] (omega arith) in rw e refl
frames_fuel (suc n) zero (x ∷ xs) h g = absurd (omega arith)
frames_fuel (suc n) (suc k) b h g = go (λ c p q. frames_fuel n k c p q) (front_frame b) refl
  where
    go : ((c : List ℕ) → length c ≤ n → length c ≤ k → frames_by n c ≡ frames_by k c)
        → (f : Option (List ℕ)) → front_frame b ≡ f →
        then_frames b (front_frame b) (frames_by n (after_frame b (front_frame b)))
        ≡ then_frames b (front_frame b) (frames_by k (after_frame b (front_frame b)))
    go hypothesis None e = rw e refl
    go hypothesis (Some m) e =
        let f : Falls b m = falls b m e in
        let l : length (drop (length m) b) + length m ≡ length b = omega (arith, length-drop (length m) b, f.within) in
        let s : 8 ≤ length m = f.some in
        rw e (ap (then_frames b (Some m)) (hypothesis (drop (length m) b) (omega arith) (omega arith)))

pub frames_none : (b : List ℕ) → front_frame b ≡ None → frames b ≡ record { all = []; rest = b }
unfolding frames
frames_none b e = go (length b) refl
  where
    go : (n : ℕ) → length b ≡ n → frames_by n b ≡ record { all = []; rest = b }
    go zero h = refl
    go (suc n) h = rw e refl

pub frames_some : (b m : List ℕ) → front_frame b ≡ Some m
    → frames b ≡ record {
      all = m ∷ (frames (drop (length m) b)).all;
      rest =
          (frames (drop (length m) b)).rest;
    }
unfolding frames
frames_some b m e = go (length b) refl
  where
    go : (n : ℕ) → length b ≡ n → frames_by n b
        ≡ record {
          all = m ∷ (frames_by (length (drop (length m) b))
              (drop (length m) b)).all;
          rest =
              (frames_by (length (drop (length m) b)) (drop (length m) b)).rest;
        }
    go zero h = let f : Falls b m = falls b m e in absurd (omega (arith, f.some, f.within))
    go (suc n) h =
        let f : Falls b m = falls b m e in
        let l : length (drop (length m) b) + length m ≡ length b = omega (arith, length-drop (length m) b, f.within) in
        let s : 8 ≤ length m = f.some in
        rw e (ap (then_frames b (Some m))
        (frames_fuel n (length (drop (length m) b)) (drop (length m) b) (omega arith)
        (omega arith)))

-- ---- frames one after the other

abbrev pub AreFrames : List (List ℕ) → Type 0
AreFrames [] = Unit {0}
AreFrames (m ∷ ms) = (front_frame m ≡ Some m) × AreFrames ms

drop_front : (m rest : List ℕ) → drop (length m) (m ++ rest) ≡ rest
drop_front [] rest = refl
drop_front (x ∷ xs) rest = drop_front xs rest

pub frames_joined : (ms : List (List ℕ)) → AreFrames ms → frames (joined_texts ms) ≡ record { all = ms; rest = [] }
frames_joined [] are = frames_none [] (front_short [] (omega arith))
frames_joined (m ∷ ms) are =
    let later : frames (drop (length m) (m ++ joined_texts ms)) ≡ record { all = ms; rest = [] } =
    ap frames (drop_front m (joined_texts ms)) ∙ frames_joined ms are.1 in
    frames_some (m ++ joined_texts ms) m (frame_before m (joined_texts ms) are.0) ∙ rw later refl
