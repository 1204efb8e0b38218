use Rattle.std.proofs.Common.{sym}
use Rattle.ur_http.proofs.Faults.{host_missing, host_one, host_several}
use Rattle.ur_http.proofs.heads.lacks_host.Goals as goal

pub returns-in-Missing : goal.returns-in-Missing
returns-in-Missing c = sym (host_missing _ c.args.minor c.in-Missing.ensures)

pub returns-in-One : goal.returns-in-One
returns-in-One c = sym (host_one _ c.args.minor _ c.in-One.ensures)

pub returns-in-Several : goal.returns-in-Several
returns-in-Several c = let (a, b, more, is) = c.in-Several.ensures in sym (host_several _ c.args.minor a b more is)
