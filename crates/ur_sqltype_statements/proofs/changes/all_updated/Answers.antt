use Rattle.ur_sqltype.specs.Change.{assigned, set_at}
use Rattle.ur_sqltype.specs.SqltypeFaults.{in_set}
use Rattle.ur_sqltype_statements.proofs.Pairs.{map-more, map-stands}
use Rattle.ur_sqltype.proofs.Exits.{refused-exit}
use Rattle.ur_sqltype.proofs.SqltableValues.{stands_there}
use Rattle.ur_sqltype_statements.proofs.changes.all_updated.Goals as goal

pub returns-in_err-sets-clause-refused : goal.returns-in_err-sets-clause-refused
returns-in_err-sets-clause-refused c = refused-exit c.from_residual.result c.in_err-sets.field-0.0 c.from_residual.ensures.1 (λ r b. in_set (assigned c.index-assignments-i.result) (map-stands assigned c.args.assignments.now c.index-assignments-i.result (stands_there c.args.assignments.now c.loop-i.i c.index-assignments-i.result c.loop-i-test.true c.index-assignments-i.is)) b) c.in_err-sets.ensures.refused

pub loop-i-preserved : goal.loop-i-preserved
loop-i-preserved c = map-more (set_at c.args.within.now c.args.columns.now) assigned c.args.assignments.now c.loop-i.i c.index-assignments-i.result c.loop-i.sets c.in_ok-sets.sets c.loop-i-test.true c.index-assignments-i.is c.in_ok-sets.ensures.typed c.loop-i.invariant
