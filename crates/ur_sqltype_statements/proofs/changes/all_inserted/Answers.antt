use Rattle.ur_sqltype.specs.SqltypeFaults.{in_set}
use Rattle.ur_sqltype.specs.Change.{set_at}
use Rattle.ur_sqltype_statements.proofs.Pairs.{pair-more, pair-stands}
use Rattle.ur_sqltype.proofs.Exits.{refused-exit}
use Rattle.ur_sqltype_statements.proofs.changes.all_inserted.Goals as goal

pub returns-in_err-sets-clause-refused : goal.returns-in_err-sets-clause-refused
returns-in_err-sets-clause-refused c = refused-exit c.from_residual.result c.in_err-sets.field-0.0 c.from_residual.ensures.1 (λ r b. in_set (c.index-names-i.result, c.index-values-i.result) (pair-stands c.args.names.now c.args.values.now c.loop-i.i c.index-names-i.result c.index-values-i.result c.requires c.loop-i-test.true c.index-names-i.is c.index-values-i.is) b) c.in_err-sets.ensures.refused

pub loop-i-preserved : goal.loop-i-preserved
loop-i-preserved c = pair-more (set_at c.args.within.now c.args.columns.now) c.args.names.now c.args.values.now c.loop-i.i c.index-names-i.result c.index-values-i.result c.loop-i.sets c.in_ok-sets.sets c.requires c.loop-i-test.true c.index-names-i.is c.index-values-i.is c.in_ok-sets.ensures.typed c.loop-i.invariant
