use Rattle.std.proofs.Common.{sym, subst, arith}
use Rattle.bench.specs.Rows.{HasRows}
use Rattle.bench.proofs.States.{has-table, is-row, has-row, rows-replaced}
use Rattle.bench.proofs.keeper.replace_all.Goals as goal

pub replace-requires-clause-under_way : goal.replace-requires-clause-under_way
replace-requires-clause-under_way c = c.loop-number.invariant.under_way

pub replace-requires-clause-table : goal.replace-requires-clause-table
replace-requires-clause-table c = has-table _ c.loop-number.invariant.kept

pub replace-requires-clause-row : goal.replace-requires-clause-row
replace-requires-clause-row c = is-row _ _ c.loop-number.invariant.kept c.requires.row

pub replace-requires-clause-there : goal.replace-requires-clause-there
replace-requires-clause-there c = has-row _ 0 c.args.count _ c.loop-number.invariant (omega arith) (omega arith)

pub loop-number-preserved : goal.loop-number-preserved
loop-number-preserved c = subst (λ m. HasRows 0 c.args.count m) (sym c.in_ok-replace.ensures.ok) (rows-replaced _ 0 c.args.count _ _ c.loop-number.invariant)
