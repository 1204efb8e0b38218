use Rattle.std.proofs.Common.{◌≡◌, ◌++◌, take}
use Rattle.ur_keeper_kept.specs.Rewriting.{puts}
use Rattle.ur_keeper_kept.specs.First.{new_body}
use Rattle.ur_keeper_kept.proofs.growing.put_all.Given as goal

abbrev pub invariant-loop-entry : goal.invariant-loop-entry
invariant-loop-entry l = l.changes ≡ l.initial.changes ++ puts l.tab (new_body l.columns l.others) (take l.entry-index l.entries)
