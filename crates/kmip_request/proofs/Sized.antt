-- What follows from the length of a value: its form and its size, or that it has no bytes.
use Rattle.std.proofs.Common.{◌≡◌, ℕ, List, [], ◌++◌, length, Option, Some, None, refl, sym, ◌∙◌, ap}
use Rattle.std.specs.Prelude.{IfSome}
use Rattle.std.specs.Option.{option_map}
use Rattle.kmip_wire.specs.Room.{Room, Appends}
use Rattle.kmip_shape.specs.Val.{Val}
use Rattle.kmip_shape.specs.Shape.{Shape, NoCase}
use Rattle.kmip_shape.specs.Writes.{bytes_of, HasForm, size_of, text_of, wire_len_of}
use Rattle.kmip_shape.proofs.Parts.{none_some}
use Rattle.kmip_shape.proofs.Known.{value_known}
use Rattle.kmip_shape.proofs.Lengths.{wire_len_law}
use Rattle.kmip_shape.proofs.WrittenText.{written}

no_bytes : (o : Option (List ℕ)) → None ≡ option_map length o → o ≡ None
no_bytes None h = refl
no_bytes (Some b) h = none_some _ h

pub no_length : (shape : Shape) (tag : ℕ) (val : Val) (len : Option ℕ) → len ≡ wire_len_of shape val
    → len ≡ None → bytes_of shape tag val ≡ None
no_length shape tag val len h e = no_bytes (bytes_of shape tag val) (sym e ∙ (h ∙ wire_len_law shape tag val))

pub form_of_length : (shape : Shape) (val : Val) (len : Option ℕ) → len ≡ wire_len_of shape val
    → IfSome len (λ _. HasForm shape val)
form_of_length shape val None h = tt
form_of_length shape val (Some n) h = (value_known val NoCase shape n (sym h)).0

pub size_of_length : (shape : Shape) (val : Val) (len : Option ℕ) → len ≡ wire_len_of shape val
    → IfSome len (λ n. n ≡ size_of shape val)
size_of_length shape val None h = tt
size_of_length shape val (Some n) h = sym ((value_known val NoCase shape n (sym h)).1)

-- what was appended to an empty buffer are the canonical bytes
pub bytes_appended : (shape : Shape) (tag : ℕ) (val : Val) (a b : Room) (n : ℕ) → HasForm shape val
    → a.bytes ≡ [] → Appends a b (text_of shape tag val) n → bytes_of shape tag val ≡ Some b.bytes
bytes_appended shape tag val a b n f empty w =
    (written val NoCase shape tag f).0 ∙ ap Some (sym (w.bytes ∙ ap (λ x. x ++ text_of shape tag val) empty))
