use Rattle.std.proofs.Common.{take}
use Rattle.std.proofs.lemmas.Str.{IsUtf8-from_ascii, IsAscii-take}
use Rattle.kmip_wire.proofs.value.is_text.Goals as goal

pub returns-then-are_ascii_words : goal.returns-then-are_ascii_words
returns-then-are_ascii_words c = (
  λ h. IsUtf8-from_ascii (take c.args.size c.args.padded.now)
      (IsAscii-take c.args.padded.now c.args.size (c.are_ascii_words.ensures h)),
  λ h. c.if-are_ascii_words.true,
)
