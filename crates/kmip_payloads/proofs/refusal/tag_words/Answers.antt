use Rattle.std.proofs.Common.{◌≡◌, ℕ, ◌-◌, ◌≤◌, ◌^◌, Bool, true, false, cond, List, length, Option, None, codes, nat_lt, refl, sym, ap, arith}
use Rattle.std.specs.List.{slice_get}
use Rattle.std.specs.Option.{unwrap_or}
use Rattle.std.proofs.lemmas.Option.{slice_get_past}
use Rattle.kmip_tags.specs.Table.{first_tag, names}
use Rattle.kmip_tags.specs.Names.{name_of}
use Rattle.kmip_payloads.proofs.refusal.tag_words.Goals as goal

names_count : length names ≡ 292
unfolding names
names_count = refl

past : (b : Bool) (index : ℕ) → length names ≤ index → cond b None (slice_get names index) ≡ None
past true index le = refl
past false index le = slice_get_past names index le

-- no tag of four bytes has a name
no_name : (tag : ℕ) → 2 ^ 24 ≤ tag → name_of tag ≡ None
no_name tag le =
    past (nat_lt tag first_tag) (tag - first_tag) (omega (arith, names_count))

pub returns-in-None : goal.returns-in-None
returns-in-None c =
    sym (ap (λ (found : Option (List ℕ)). unwrap_or found (codes "an unknown tag"))
    (no_name c.args.tag c.in-None.ensures))
