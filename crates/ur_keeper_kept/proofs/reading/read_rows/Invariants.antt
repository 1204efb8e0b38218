use Rattle.std.proofs.Common.{take, drop, T}
use Rattle.std.specs.Ordering.{int_cmp}
use Rattle.std.specs.FinMap.{is_sorted}
use Rattle.ur_keeper_kept.specs.Kept.{AreRead}
use Rattle.ur_keeper_kept.specs.Faults.{AreReadable}
use Rattle.ur_keeper_kept.proofs.Finding.{ReadsFrom}
use Rattle.ur_keeper_kept.proofs.reading.read_rows.Given as goal

abbrev pub invariant-loop-entry : goal.invariant-loop-entry
invariant-loop-entry l = record {
  read : AreRead l.layout l.columns (take l.entry-index l.entries) l.rows l.next;
  left : T (is_sorted int_cmp l.entries) → AreReadable l.layout l.columns l.entries → ReadsFrom l.layout l.columns l.next (drop l.entry-index l.entries);
}
