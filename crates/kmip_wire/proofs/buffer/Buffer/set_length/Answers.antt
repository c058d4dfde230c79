use Rattle.std.proofs.Common.{◌≡◌, ◌++◌, ◌+◌, ◌≤◌, ◌∙◌, List, ℕ, length, take, drop, sym, ap, subst, arith}
use Rattle.std.specs.Int.{w32, to_be_bytes}
use Rattle.std.proofs.lemmas.List.{take-take, take-append-le, length-take-le, length-append, length-drop}
use Rattle.kmip_wire.specs.Room.{Room}
use Rattle.kmip_wire.proofs.Places.{front_written}
use Rattle.kmip_wire.proofs.buffer.Buffer.set_length.Goals as goal

pub returns-clause-bytes : goal.returns-clause-bytes
returns-clause-bytes c =
    let room = c.self.inside.room.items in
    let len = c.self.inside.len in
    let new = c.put_length.new.bytes in
    let at = c.args.at in
    let digits = to_be_bytes w32 c.args.len in
    let within : len ≤ length room = omega (
      arith,
      c.self.invariant,
      c.as_mut_slice.ensures.len,
      ap (λ (xs : List ℕ). length xs) c.as_mut_slice.ensures.value,
    ) in
    let enough : at + 8 ≤ len = omega (
      arith,
      c.requires,
      ap (λ (r : Room). length r.bytes) c.self.view_is,
      length-take-le len room within,
    ) in
    let is : new ≡ take (at + 4) room ++ (digits ++ drop (at + 8) room) =
    subst (λ (xs : List ℕ). new ≡ take (at + 4) xs ++ (digits ++ drop (at + 8) xs))
    c.as_mut_slice.ensures.value c.put_length.ensures in
    let same : length new ≡ length room =
    ap (λ (xs : List ℕ). length xs) is
    ∙ omega (
      arith,
      within,
      enough,
      length-append (take (at + 4) room)
          (digits ++ drop (at + 8) room),
      length-append digits (drop (at + 8) room),
      length-take-le (at + 4) room (omega (arith, within, enough)),
      length-drop (at + 8) room,
    ) in
    rw (← c.self.view_is) (take-take len _ _ c.self.invariant
    ∙ take-append-le len new _ (omega (arith, within, same))
    ∙ ap (λ (xs : List ℕ). take len xs) is
    ∙ front_written room digits (at + 4) (at + 8) len (omega arith) enough within)
