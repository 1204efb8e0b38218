use Rattle.ur_kinds.specs.Walk.{scope_of}
use Rattle.ur_kinds.proofs.Fitting.{RestSuffices, RecordRestSuffices}
use Rattle.ur_kinds.proofs.walk.+kinding.Given as goal

abbrev pub invariant-record-loop-i : goal.invariant-record-loop-i
invariant-record-loop-i l = RecordRestSuffices (scope_of l.names) l.fields l.i

abbrev pub invariant-row-loop-i : goal.invariant-row-loop-i
invariant-row-loop-i l = RestSuffices (scope_of l.names) l.fields l.i
