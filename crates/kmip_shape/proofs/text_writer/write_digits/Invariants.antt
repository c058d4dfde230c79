use Rattle.std.proofs.Common.{◌≡◌, ◌*◌, ◌++◌, take, drop, flat_map}
use Rattle.std.specs.Str.{IsAscii}
use Rattle.kmip_shape.specs.Shown.{hex_byte}
use Rattle.kmip_shape.proofs.text_writer.write_digits.Given as goal

-- the digits written, before those of the bytes that are left
abbrev pub invariant-loop-i : goal.invariant-loop-i
invariant-loop-i l = record {
  digits : take (2 * l.i) l.out ++ flat_map hex_byte (drop l.i l.bytes) ≡ flat_map hex_byte l.bytes;
  ascii : IsAscii (take (2 * l.i) l.out);
}
