use Rattle.std.proofs.Common.{◌≡◌, ◌≤◌, length}
use Rattle.ur_keeper.specs.Keeper.{IsWithin}
use Rattle.ur_machine.specs.Answers.{scanned as counted}
use Rattle.ur_machine.proofs.Scanning.{Scanned}
use Rattle.ur_machine.proofs.queries.scan_all.Given as goal

abbrev pub invariant-loop-item : goal.invariant-loop-item
invariant-loop-item g l = record {
  scanned : Scanned (g.K.Keeper.kept l.initial.keeper) (g.K.Keeper.current l.initial.keeper) l.items l.left l.tables;
  current : g.K.Keeper.current l.keeper ≡ g.K.Keeper.current l.initial.keeper;
  within : IsWithin (g.K.Keeper.saved l.initial.keeper) (g.K.Keeper.saved l.keeper) (g.K.Keeper.kept l.initial.keeper) (g.K.Keeper.kept l.keeper) (g.K.Keeper.under_way l.keeper);
  reads : counted (length l.left) (g.K.Keeper.reads l.keeper) ≡ counted (length l.items) (g.K.Keeper.reads l.initial.keeper);
  faults : g.K.Keeper.faults l.initial.keeper ≤ g.K.Keeper.faults l.keeper;
}

abbrev pub decreases-loop-item : goal.decreases-loop-item
decreases-loop-item g l = length l.left
