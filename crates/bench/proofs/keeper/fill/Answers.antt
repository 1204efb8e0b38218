use Rattle.std.proofs.Common.{◌+◌, ◌≤◌, sym, subst, arith}
use Rattle.bench.specs.Rows.{HasRows}
use Rattle.bench.proofs.States.{has-table, is-row, has-next, rows-inserted}
use Rattle.bench.proofs.keeper.fill.Goals as goal

pub insert-requires-clause-under_way : goal.insert-requires-clause-under_way
insert-requires-clause-under_way c = c.loop.invariant.under_way

pub insert-requires-clause-table : goal.insert-requires-clause-table
insert-requires-clause-table c = has-table _ c.loop.invariant.kept

pub insert-requires-clause-row : goal.insert-requires-clause-row
insert-requires-clause-row c = is-row _ _ c.loop.invariant.kept c.requires.row

pub insert-requires-clause-room : goal.insert-requires-clause-room
insert-requires-clause-room c = has-next _ _ c.loop.invariant (omega arith)

pub loop-preserved : goal.loop-preserved
loop-preserved c = subst (λ m. HasRows 0 (c.loop.counter + 1) m) (sym c.in_ok-insert.ensures.ok) (rows-inserted _ _ _ c.loop.invariant)
