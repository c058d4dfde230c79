-- What is there, or not.
use Rattle.std.proofs.Common.{◌≡◌, Option, Some, None, option_map, is_some, false, refl, ap}
use Rattle.kmip_xml.specs.Given.{◌>>=◌}

pub map_some : {A B : Type 0} (f : A → B) (o : Option A) (y : B) → Some y ≡ option_map f o
    → Some (Some y) ≡ option_map (λ x. Some (f x)) o
map_some f (Some x) y e = ap Some e
map_some f None y e = absurd cc

pub map_none : {A B : Type 0} (f : A → B) (o : Option A) → None ≡ option_map f o
    → None ≡ option_map (λ x. Some (f x)) o
map_none f (Some x) e = absurd cc
map_none f None e = refl

pub is_some_map : {A B : Type 0} (f : A → B) (o : Option A) → is_some (option_map f o) ≡ is_some o
is_some_map f (Some x) = refl
is_some_map f None = refl

pub bind_none : {A B C : Type 0} (f : A → B) (g : B → Option C) (o : Option A) → is_some o ≡ false
    → option_map f o >>= g ≡ None
bind_none f g (Some x) e = absurd cc
bind_none f g None e = refl
