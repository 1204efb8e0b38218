use Rattle.std.proofs.Common.{sym, [], ◌∷◌}
use Rattle.ur_http.proofs.Faults.{coded_missing, coded_some}
use Rattle.ur_http.proofs.heads.is_coded.Goals as goal

pub returns-in-Missing : goal.returns-in-Missing
returns-in-Missing c = sym (coded_missing _ c.in-Missing.ensures)

pub returns-in-One : goal.returns-in-One
returns-in-One c = sym (coded_some _ _ [] c.in-One.ensures)

pub returns-in-Several : goal.returns-in-Several
returns-in-Several c = let (a, b, more, is) = c.in-Several.ensures in sym (coded_some _ a (b ∷ more) is)
