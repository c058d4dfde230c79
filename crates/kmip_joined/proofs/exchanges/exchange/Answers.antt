use Rattle.std.proofs.Common.{◌∙◌, ap, sym}
use Rattle.std.specs.Option.{option_copied}
use Rattle.kmip_joined.proofs.Runs.{ran_ok}
use Rattle.kmip_joined.proofs.exchanges.exchange.Goals as goal

pub returns-clause-runs : goal.returns-clause-runs
returns-clause-runs c =
    ran_ok c.args.client.now c.call_one.new.client c.args.call c.in_ok-answers.answers c.in-Some.report.now c.args.diag c.show_report.result c.args.output.now c.show_report.new.output
    c.requires.joined c.requires.buffered c.in_ok-answers.ensures
    (sym c.get.ensures ∙ ap option_copied c.in-Some.is) c.show_report.ensures
