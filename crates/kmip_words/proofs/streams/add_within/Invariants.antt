use Rattle.std.proofs.Common.{◌≡◌, ◌+◌, ◌++◌, take, vec_len, vec_capacity}
use Rattle.kmip_words.proofs.streams.add_within.Given as goal

abbrev pub invariant-loop-byte : goal.invariant-loop-byte
invariant-loop-byte l = record {
  items : l.script.items ≡ l.initial.script.items ++ take l.byte-index l.bytes;
  len : vec_len l.script ≡ vec_len l.initial.script + l.byte-index;
  capacity : vec_capacity l.script ≡ vec_capacity l.initial.script;
}
