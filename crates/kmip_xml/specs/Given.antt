-- What a call that reads a text returns.
use Rattle.std.specs.Prelude.{◌≡◌, Option, Some, None, Result, Ok, Err, option_and_then}
use Rattle.kmip_xml.specs.declared.error.XmlError.{XmlError}
use Rattle.kmip_xml.specs.declared.error.XmlError.TheVariants as errors

infixl 10 ◌>>=◌
abbrev pub ◌>>=◌ : {A B : Type 0} → Option A → (A → Option B) → Option B
o >>= f = option_and_then f o

-- the first of two that is there
abbrev pub or_else : {A : Type 0} → Option A → Option A → Option A
or_else (Some x) other = Some x
or_else None other = other

-- why a text is not read; memory may run out
abbrev pub Fails : {Y : Type 0} → XmlError → Option Y → Type 0
Fails (errors.Misfit misfit) read = read ≡ None
Fails errors.OutOfMemory read = Unit {0}

-- what is returned, seen by `view`, is what reading gives
abbrev pub Gives : {X Y : Type 0} → (X → Y) → Result X XmlError → Option Y → Type 0
Gives view (Ok x) read = read ≡ Some (view x)
Gives view (Err e) read = Fails e read
