-- The attributes of an element, one after the other.
use Rattle.std.proofs.Common.{◌≡◌, ℕ, zero, suc, ◌-◌, Bool, true, false, List, Option, Some, None, is_some, refl, arith}
use Rattle.kmip_xml.specs.declared.attributes.Attributes.{Attributes}
use Rattle.kmip_xml.specs.Given.{◌>>=◌}
use Rattle.kmip_xml.specs.Scan.{trimmed, spaced}
use Rattle.kmip_xml.specs.Markup.{tag_end, attribute, attributes}

pub at_tag_end : (n : ℕ) (a : Attributes) (s : List ℕ) → is_some (tag_end (trimmed s)) ≡ true
    → attributes n a s ≡ Some (a, trimmed s)
unfolding attributes
at_tag_end zero a s e = rw e refl
at_tag_end (suc n) a s e = rw e refl

pub no_more : (n : ℕ) (a : Attributes) (s : List ℕ) → n ≡ 0 → is_some (tag_end (trimmed s)) ≡ false
    → attributes n a s ≡ None
unfolding attributes
no_more n a s z e = rw (z, e) refl

pub one_more : (n : ℕ) (a : Attributes) (s : List ℕ) → (n ≡ 0 → ⊥)
    → is_some (tag_end (trimmed s)) ≡ false
    → attributes n a s
    ≡ (spaced s >>= λ rest. attribute a rest >>= λ one. attributes (n - 1) one.0 one.1)
unfolding attributes
one_more zero a s h e = absurd (h refl)
one_more (suc n) a s h e = let k : suc n - 1 ≡ n = omega arith in rw (k, e) refl
