use Rattle.kmip_words.proofs.Replies.{part_within}
use Rattle.kmip_operations.proofs.fetched.fetched_answer.Goals as goal

pub payload_answer-requires : goal.payload_answer-requires
payload_answer-requires c =
    part_within c.in-Some-2.found.taken c.args.response.now c.args.settings.now.limit
    (rw c.in-Some-2.is at c.in_ok-found.ensures.taken)
