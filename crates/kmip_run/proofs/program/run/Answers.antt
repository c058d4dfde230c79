use Rattle.kmip_run.proofs.program.run.Goals as goal

pub returns : goal.returns
returns g c = record {
  status = c.run_words.result;
  code_is = c.code.ensures;
  runs = c.run_words.ensures;
}
