use Rattle.ur_top.proofs.Loading.{load_end}
use Rattle.ur_top.proofs.load_command.report_of.Goals as goal

pub returns-clause-report : goal.returns-clause-report
returns-clause-report c =
    load_end c.one_application.ensures c.args.seed c.args.count c.in_ok-plain.plain c.in_ok-cached.cached c.in_ok-plain.ensures.scans c.in_ok-cached.ensures.scans
