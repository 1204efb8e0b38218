-- No row so far agrees.
use Rattle.std.proofs.Common.{◌≡◌, false, take}
use Rattle.ur_values.specs.Keys.{is_taken}
use Rattle.ur_values.specs.Store.{rows_of}
use Rattle.ur_values.proofs.keys.is_taken.Given as goal

abbrev pub invariant-loop-other : goal.invariant-loop-other
invariant-loop-other l = is_taken (rows_of (take l.other-index l.rows)) l.row l.key ≡ false
