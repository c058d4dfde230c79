-- Where bytes stop being items, and why.
use Rattle.std.specs.Prelude.{ℕ, ◌+◌, ◌==◌, nat_lt, Bool, true, false, List, [], ◌++◌, length, drop, Option, Some, None, codes, if◌then◌else◌}
use Rattle.std.specs.Fmt.{decimal}
use Rattle.kmip_wire.specs.declared.kind.Kind.{Kind}
use Rattle.kmip_wire.specs.declared.kind.Kind.TheVariants.{Boolean, TextString}
use Rattle.kmip_wire.specs.Kinds.{kind_of}
use Rattle.kmip_wire.specs.Head.{head_code, head_length, size_at, value_of}
use Rattle.kmip_diag.specs.Diagnostic.{Shown, ended, stopped, item, cut_off, shown_within}
use Rattle.kmip_faults.specs.declared.fault.Why.{Why}
use Rattle.kmip_faults.specs.declared.fault.Why.TheVariants.{TooDeep, ShortHead, UnknownType, CutOff, NoPads, WrongLength, NotBoolean, NotUtf8, Unended}
use Rattle.kmip_faults.specs.declared.fault.Fault.{Fault}

-- why bytes are no value of the type, whose values they are not
abbrev pub value_why : Kind → List ℕ → Why
value_why Boolean v = if length v == 8 then NotBoolean else WrongLength
value_why TextString v = NotUtf8
value_why kind v = WrongLength

abbrev pub type_why : Option Kind → List ℕ → Why
type_why None b = UnknownType
type_why (Some kind) b =
    if nat_lt (length b) (8 + head_length b) then CutOff
    else if nat_lt (length b) (size_at b) then NoPads
    else value_why kind (value_of b)

-- why neither an item of the level nor a structure begins `b`
unfoldable pub why_at : ℕ → List ℕ → Why
why_at level b =
    if nat_lt 64 level then TooDeep
    else if nat_lt (length b) 8 then ShortHead
    else type_why (kind_of (head_code b)) b

-- the fault of bytes from `at` on that show this: where their items end, and why they do not go on
abbrev pub fault_in : ℕ → ℕ → Bool → List ℕ → Shown → Option Fault
fault_in at level is_cut_off b ended =
    if is_cut_off then Some (record { at = at; why = Unended }) else None
fault_in at level is_cut_off b stopped = Some (record { at = at; why = why_at level b })
fault_in at level is_cut_off b (item t s) =
    fault_in (at + size_at b) level is_cut_off (drop (size_at b) b) s
fault_in at level is_cut_off b (cut_off tag s) = fault_in (at + 8) (level + 1) true (value_of b) s

unfoldable pub fault_of : List ℕ → Option Fault
fault_of b = fault_in 0 1 false b (shown_within 1 b)

abbrev pub why_text : Why → List ℕ
why_text TooDeep = codes "this would be level 65, and no item is deeper than level 64"
why_text ShortHead = codes "fewer than 8 bytes are left here, and a head has 8"
why_text UnknownType = codes "the type is none of the ten"
why_text CutOff = codes "the length leads past the end of the bytes, or of the Structure around"
why_text NoPads = codes "the pads after the value are cut off"
why_text WrongLength = codes "no value of the type has this length"
why_text NotBoolean = codes "the Boolean is neither 0 nor 1"
why_text NotUtf8 = codes "the Text String is no UTF-8"
why_text Unended = codes "a Structure around goes on, and its bytes end here"

-- the place and the reason; nothing where all bytes are items
abbrev pub fault_text : Option Fault → List ℕ
fault_text None = []
fault_text (Some fault) = decimal fault.at ++ (codes " " ++ why_text fault.why)
