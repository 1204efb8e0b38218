use Rattle.ur_rows_normal.specs.Scope.{within}
use Rattle.ur_rows_normal.proofs.Scoping.{name-then}
use Rattle.ur_rows_normal.proofs.kinded.is_of_kind.Goals as goal

pub returns-then-is_of_name : goal.returns-then-is_of_name
returns-then-is_of_name c = name-then (within c.args.free.now 0) c.args.n.now c.in-Name.l c.args.k.now c.is_of_name.result c.label_is_in.result c.in-Name.is c.is_of_name.ensures c.if-is_of_name.true (c.label_is_in.ensures 0)
