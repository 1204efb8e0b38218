use Rattle.std.proofs.Common.{◌≡◌, All, ◌≤◌, length, option_map}
use Rattle.ur_keeper.specs.Keeper.{IsRowOf, IsWithin}
use Rattle.ur_sql.specs.Plan.{OfNewRow}
use Rattle.ur_machine.specs.Changing.{all_changed}
use Rattle.ur_machine.proofs.Calling.{Left}
use Rattle.ur_machine.proofs.turns_calls.change_rows.Given as goal

abbrev pub invariant-loop-change : goal.invariant-loop-change
invariant-loop-change g l = record {
  left : Left l.table l.left (option_map (all_changed l.table l.changes) (g.K.Keeper.current l.initial.keeper)) (g.K.Keeper.current l.keeper);
  rows : All (OfNewRow (IsRowOf (g.K.Keeper.kept l.initial.keeper) l.table)) l.left;
  within : IsWithin (g.K.Keeper.saved l.initial.keeper) (g.K.Keeper.saved l.keeper) (g.K.Keeper.kept l.initial.keeper) (g.K.Keeper.kept l.keeper) (g.K.Keeper.under_way l.keeper);
  reads : g.K.Keeper.reads l.keeper ≡ g.K.Keeper.reads l.initial.keeper;
  faults : g.K.Keeper.faults l.initial.keeper ≤ g.K.Keeper.faults l.keeper;
}

abbrev pub decreases-loop-change : goal.decreases-loop-change
decreases-loop-change g l = length l.left
