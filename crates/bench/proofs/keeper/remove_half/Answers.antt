use Rattle.std.proofs.Common.{◌+◌, ◌*◌, ◌≤◌, sym, subst, arith}
use Rattle.bench.specs.Rows.{HasRows}
use Rattle.bench.proofs.States.{has-table, has-row, rows-removed, rows-later}
use Rattle.bench.proofs.keeper.remove_half.Goals as goal

pub remove-requires-clause-under_way : goal.remove-requires-clause-under_way
remove-requires-clause-under_way c = c.loop-pair.invariant.under_way

pub remove-requires-clause-table : goal.remove-requires-clause-table
remove-requires-clause-table c = has-table _ c.loop-pair.invariant.kept

pub remove-requires-clause-there : goal.remove-requires-clause-there
remove-requires-clause-there c = has-row _ (2 * c.loop-pair.pair) c.args.count c.from.result c.loop-pair.invariant (omega arith) (omega arith)

pub loop-pair-preserved : goal.loop-pair-preserved
loop-pair-preserved c =
    let next = rows-removed c.loop-pair.keeper (2 * c.loop-pair.pair) c.args.count c.from.result (omega arith) c.loop-pair.invariant in
    subst (λ m. HasRows (2 * (c.loop-pair.pair + 1)) c.args.count m) (sym c.in_ok-remove.ensures.ok) (rows-later _ (c.from.result + 1) _ c.args.count (omega arith) next)
