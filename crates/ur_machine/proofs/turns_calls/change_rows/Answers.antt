use Rattle.std.proofs.Common.{All, subst, ◌∙◌}
use Rattle.std.proofs.Math.Nat.{le_trans}
use Rattle.std.proofs.lemmas.List.Elements.{All-tail}
use Rattle.ur_keeper.specs.Keeper.{IsRowOf}
use Rattle.ur_sql.specs.Plan.{OfNewRow}
use Rattle.ur_machine.proofs.Calling.{left_step}
use Rattle.ur_machine.proofs.Planning.{within_after}
use Rattle.ur_machine.proofs.turns_calls.change_rows.Goals as goal

pub loop-change-preserved : goal.loop-change-preserved
loop-change-preserved g c = record {
  left = left_step c.args.table c.in-Some.change.now c.in-Some.rest.now c.loop-change.left.now _ _ _ c.in-Some.ensures.cases.0 c.loop-change.invariant.left c.in_ok-change_row.ensures.current;
  rows = All-tail (OfNewRow (IsRowOf (g.K.Keeper.kept c.args.keeper.now) c.args.table)) c.in-Some.change.now c.in-Some.rest.now (subst (All (OfNewRow (IsRowOf (g.K.Keeper.kept c.args.keeper.now) c.args.table))) c.in-Some.ensures.cases.0 c.loop-change.invariant.rows);
  within = within_after _ _ _ _ _ _ _ _ c.loop-change.invariant.within c.in_ok-change_row.ensures.ends;
  reads = c.in_ok-change_row.ensures.reads ∙ c.loop-change.invariant.reads;
  faults = le_trans c.loop-change.invariant.faults c.in_ok-change_row.ensures.cause.later;
}
