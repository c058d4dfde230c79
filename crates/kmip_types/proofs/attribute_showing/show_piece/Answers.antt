use Rattle.kmip_types.proofs.attribute_showing.show_piece.Goals as goal

pub returns-in-Word : goal.returns-in-Word
returns-in-Word c = rw c.in-Word.is c.put_word.ensures

pub returns-in-Chars : goal.returns-in-Chars
returns-in-Chars c = rw c.in-Chars.is c.put_text.ensures

pub returns-in-Octets : goal.returns-in-Octets
returns-in-Octets c = rw c.in-Octets.is c.put_bytes.ensures

pub returns-in-Unsigned : goal.returns-in-Unsigned
returns-in-Unsigned c = rw c.in-Unsigned.is c.put_unsigned.ensures

pub returns-in-Date : goal.returns-in-Date
returns-in-Date c = rw c.in-Date.is c.put_date.ensures

pub returns-in-Truth : goal.returns-in-Truth
returns-in-Truth c = rw c.in-Truth.is c.put_truth.ensures
