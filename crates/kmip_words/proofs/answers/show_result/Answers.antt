use Rattle.std.proofs.Common.{sym, ap, subst}
use Rattle.kmip_client.specs.Outcome.{Answer, answer_with_payload}
use Rattle.kmip_words.specs.Exchange.{json_line}
use Rattle.kmip_words.specs.JsonLines.{IsGrammarLine}
use Rattle.kmip_words.proofs.answers.show_result.Goals as goal

pub returns-in-Err-clause-json : goal.returns-in-Err-clause-json
returns-in-Err-clause-json c =
    let P : Answer → Type 0 = λ a. IsGrammarLine (json_line c.args.call.now a) in
    subst P (sym (ap answer_with_payload c.in-Err.is)) (c.lines_are_json.ensures.error c.args.call.now c.in-Err.error)
