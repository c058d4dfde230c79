use Rattle.std.proofs.Common.{◌∙◌, ap, refl, rules, w64, SFits, pos, length, List, ℕ, Some, None}
use Rattle.std.proofs.lemmas.Int.{to_z-of_z}
use Rattle.kmip_exports.specs.Exports.{room_with}
use Rattle.kmip_c.specs.Codes.{no_value}
use Rattle.kmip_c.proofs.Valued.{no_line, no_path, valued}
use Rattle.kmip_c.proofs.kmip_value.Goals as goal

pub returns-in_default-clause-value : goal.returns-in_default-clause-value
returns-in_default-clause-value c = λ some.
    no_line c.args.line.now c.args.path.now c.args.into.now c.args.hex c.in_default.ensures.cases.0

pub returns-in_default-from_utf8-clause-value : goal.returns-in_default-from_utf8-clause-value
returns-in_default-from_utf8-clause-value c = λ some.
    no_path c.args.line.now c.args.path.now c.args.into.now c.args.hex c.in-Ok.ensures.cases.1
    c.in_default-from_utf8.ensures.cases.0

pub returns-in-Ok-Some-clause-value : goal.returns-in-Ok-Some-clause-value
returns-in-Ok-Some-clause-value c = λ some.
    let told : SFits w64 c.copy_out.result = search rules in
    let found = rw (
      c.in-Ok-Some.field-0-is,
      c.in-Ok.ensures.cases.0,
      c.in-Ok-from_utf8.ensures.cases.0,
    ) at c.in-Ok-Some.ensures in
    rw (to_z-of_z w64 c.copy_out.result told)
    (valued c.args.line.now c.args.path.now c.args.into.now c.copy_out.new.room c.args.hex
    (Some c.in-Ok-Some.value.items) c.copy_out.result c.in-Ok.ensures.cases.1
    c.in-Ok-from_utf8.ensures.cases.1 found (
      c.copy_out.ensures.len ∙ ap (λ (x : List ℕ). pos (length x)) c.deref.ensures.value,
      c.copy_out.ensures.room ∙ ap (λ (x : List ℕ). room_with x c.args.into.now)
          c.deref.ensures.value,
    ))

pub returns-in-Ok-None-clause-value : goal.returns-in-Ok-None-clause-value
returns-in-Ok-None-clause-value c = λ some.
    let found = rw (
      c.in-Ok-None.field-0-is,
      c.in-Ok.ensures.cases.0,
      c.in-Ok-from_utf8.ensures.cases.0,
    ) at c.in-Ok-None.ensures in
    valued c.args.line.now c.args.path.now c.args.into.now c.args.into.now c.args.hex None no_value
    c.in-Ok.ensures.cases.1 c.in-Ok-from_utf8.ensures.cases.1 found (refl, refl)
