-- Texts appended one after the other, while memory suffices.
use Rattle.std.proofs.Common.{◌≡◌, ℕ, Bool, true, false, List, [], ◌∷◌, ◌++◌, refl, sym, ◌∙◌, ap, subst, append_assoc, append-nil, flat_map, length}
use Rattle.std.proofs.lemmas.Grind.{flat_map-append}
use Rattle.kmip_shape.specs.declared.style.Style.{Style}
use Rattle.kmip_shape.specs.declared.style.Style.TheVariants.{Bare, Json}
use Rattle.kmip_shape.specs.Val.{Val}
use Rattle.kmip_shape.specs.Shape.{Shape, NoCase}
use Rattle.kmip_shape.specs.Writes.{vals}
use Rattle.kmip_shape.specs.Shown.{Growing, Grows, AddsPart, always, comma, val_in_style, list_in_style, text_in_style, beside, in_brackets, case_opening, case_closing, brackets_opening, brackets_closing}

none_added : (old text : List ℕ) → AddsPart old old text
none_added old text = record { part = []; rest = text; whole = refl; added = sym (append-nil old) }

all_added : (old new text : List ℕ) → new ≡ old ++ text → AddsPart old new text
all_added old new text h = record { part = text; rest = []; whole = append-nil text; added = h }

-- only the text in the style that is counts
pub in_style : {a b : Growing} {x y : Style → List ℕ} → x a.style ≡ y a.style → Grows a b x → Grows a b y
in_style {a} {b} {x} {y} e p = record {
  same = p.same;
  stays = p.stays;
  all = λ h. p.all h ∙ ap (λ z. a.text ++ z) e;
  closed = p.closed;
  part = subst (λ (z : List ℕ). AddsPart a.text b.text z) e p.part;
}

pub of_style : {a b : Growing} {x y : Style → List ℕ} (s : Style) → a.style ≡ s → x s ≡ y s → Grows a b x → Grows a b y
of_style {a} {b} {x} {y} s h e p = in_style {x = x} {y = y} (ap x h ∙ (e ∙ sym (ap y h))) p

pub grown : {a b c : Growing} {x y : Style → List ℕ} → Grows a b x → Grows b c y → Grows a c (λ s. x s ++ y s)
grown {a} {b} {c} {x} {y} p q = record {
  same = q.same ∙ p.same;
  stays = λ h. p.stays (q.stays h);
  all = λ h. q.all h ∙ (ap (λ z. z ++ y b.style) (p.all (q.stays h))
      ∙ (append_assoc a.text (x a.style) (y b.style)
      ∙ ap (λ z. a.text ++ (x a.style ++ y z)) p.same));
  closed = λ h. q.closed (shut h) ∙ p.closed h;
  part = go b.live refl;
}
  where
    shut : a.live ≡ false → b.live ≡ false
    shut h = at b.live refl
      where
        at : (o : Bool) → b.live ≡ o → b.live ≡ false
        at true e = let k : a.live ≡ true = p.stays e in cc
        at false e = e

    later : AddsPart b.text c.text (y a.style)
    later = subst (λ (z : Style). AddsPart b.text c.text (y z)) p.same q.part

    go : (o : Bool) → b.live ≡ o → AddsPart a.text c.text (x a.style ++ y a.style)
    go true e = record {
      part = x a.style ++ later.part;
      rest = later.rest;
      whole = append_assoc (x a.style) later.part later.rest ∙ ap (λ z. x a.style ++ z) later.whole;
      added = later.added ∙ (ap (λ z. z ++ later.part) (p.all e) ∙ append_assoc a.text (x a.style) later.part);
    }
    go false e = record {
      part = p.part.part;
      rest = p.part.rest ++ y a.style;
      whole = sym (append_assoc p.part.part p.part.rest (y a.style)) ∙ ap (λ z. z ++ y a.style) p.part.whole;
      added = q.closed e ∙ p.part.added;
    }

pub nothing : {a : Growing} → Grows a a (always [])
nothing {a} = record {
  same = refl;
  stays = λ h. h;
  all = λ h. sym (append-nil a.text);
  closed =
      λ h. refl;
  part = none_added a.text [];
}

pub put_all : {a b : Growing} {x : List ℕ} → b.style ≡ a.style → a.live ≡ true
    → b.text ≡ a.text ++ x → Grows a b (always x)
put_all {a} {b} {x} s h e = record
    { same = s; stays = λ k. h; all = λ k. e; closed = λ k. cc; part = all_added a.text b.text x e }

pub put_none : {a b : Growing} {x : List ℕ} → b.style ≡ a.style → b.live ≡ false → b.text ≡ a.text
    → Grows a b (always x)
put_none {a} {b} {x} s h e = record {
  same = s;
  stays = λ k. cc;
  all = λ k. cc;
  closed = λ k. e;
  part =
      subst (λ (z : List ℕ). AddsPart a.text z x) (sym e) (none_added a.text x);
}

pub ruleset growth = (put_all, put_none, grown, nothing)

-- a case: its opening, its value and its closing
pub case_grown : {a b c d : Growing} (name : List ℕ) {text : Style → List ℕ}
    → Grows a b (case_opening name) → Grows b c text → Grows c d case_closing
    → Grows a d (beside name text)
case_grown {a} {b} {c} {d} name {text} p q r =
    in_style {x = λ s. case_opening name s ++ (text s ++ case_closing s)} {y = beside name text}
    (same a.style) (grown p (grown q r))
  where
    same : (s : Style) → case_opening name s ++ (text s ++ case_closing s) ≡ beside name text s
    same Bare = ap (λ z. name ++ z) (append-nil (text Bare))
    same Json = ap (λ z. 123 ∷ z) (append_assoc (text_in_style name Json) (58 ∷ []) (text Json ++ 125 ∷ []))

pub brackets_grown : {a b c d : Growing} (name : List ℕ) {text : Style → List ℕ}
    → Grows a b (brackets_opening name) → Grows b c text → Grows c d brackets_closing
    → Grows a d (in_brackets name text)
brackets_grown {a} {b} {c} {d} name {text} p q r =
    in_style {x = λ s. brackets_opening name s ++ (text s ++ brackets_closing s)}
    {y = in_brackets name text} (same a.style) (grown p (grown q r))
  where
    same : (s : Style) → brackets_opening name s ++ (text s ++ brackets_closing s) ≡ in_brackets name text s
    same Bare = append_assoc name (40 ∷ []) (text Bare ++ 41 ∷ [])
    same Json = ap (λ z. 123 ∷ z) (append_assoc (text_in_style name Json) (58 ∷ []) (text Json ++ 125 ∷ []))

-- a text of several parts: what shows the parts after the first shows all
pub bytes_done : {a : Growing} (show : Style → ℕ → List ℕ) (xs : List ℕ) → length xs ≡ 0
    → Grows a a (λ s. flat_map (show s) xs)
bytes_done show [] e = nothing
bytes_done show (x ∷ xs) e = cc

pub bytes_step : {a b c : Growing} (show : Style → ℕ → List ℕ) (xs first tail : List ℕ) → xs ≡ first ++ tail
    → Grows a b (λ s. flat_map (show s) first) → Grows b c (λ s. flat_map (show s) tail)
    → Grows a c (λ s. flat_map (show s) xs)
bytes_step {a} {b} {c} show xs first tail e p q =
    in_style {x = λ s. flat_map (show s) first ++ flat_map (show s) tail} {y = λ s. flat_map (show s) xs}
    (sym (ap (flat_map (show a.style)) e ∙ flat_map-append (show a.style) first tail)) (grown p q)

pub items_step : {A : Type 0} {a b c d : Growing} (f : A → Val) (shape : Shape) (xs : List A)
    (x : A) (tail : List A) (after : Bool) → xs ≡ x ∷ tail
    → Grows a b (always (comma after)) → Grows b c (val_in_style (f x) NoCase shape)
    → Grows c d (list_in_style (vals f tail) NoCase shape true)
    → Grows a d (list_in_style (vals f xs) NoCase shape after)
items_step {A} {a} {b} {c} {d} f shape xs x tail after e p q r =
    subst (λ (ys : List A). Grows a d (list_in_style (vals f ys) NoCase shape after)) (sym e) (grown p (grown q r))

pub items_done : {A : Type 0} {a : Growing} (f : A → Val) (shape : Shape) (xs : List A)
    (after : Bool) → xs ≡ [] → Grows a a (list_in_style (vals f xs) NoCase shape after)
items_done {A} {a} f shape xs after h =
    subst (λ (ys : List A). Grows a a (list_in_style (vals f ys) NoCase shape after))
    (sym h) nothing
