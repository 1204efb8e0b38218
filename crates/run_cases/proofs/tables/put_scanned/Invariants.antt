use Rattle.std.proofs.Common.{◌≡◌, true}
use Rattle.ur_keeper.specs.Tables.{Keeps}
use Rattle.run_cases.proofs.tables.put_scanned.Given as goal

abbrev pub invariant-loop-i : goal.invariant-loop-i
invariant-loop-i g l = record {
  under_way : g.K.Keeper.under_way l.keeper ≡ true;
  kept : g.K.Keeper.kept l.keeper ≡ Keeps l.fn.kept;
}
