use Rattle.kmip_words.proofs.refusal.push_failure.Goals as goal

pub returns-in-ServerError : goal.returns-in-ServerError
returns-in-ServerError c = rw c.in-ServerError.is
    (rw c.as_str-in-ServerError.ensures.bytes at c.push_refused.ensures)

pub returns-in-ItemNotFound : goal.returns-in-ItemNotFound
returns-in-ItemNotFound c = rw c.in-ItemNotFound.is
    (rw c.as_str-in-ItemNotFound.ensures.bytes at c.push_refused-in-ItemNotFound.ensures)
