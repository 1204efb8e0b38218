use Rattle.std.proofs.Common.{length}
use Rattle.ur_machine_operations.proofs.Fields.{AreNamed}
use Rattle.ur_machine_operations.proofs.records.fields_of.Given as goal

abbrev pub invariant-loop-value : goal.invariant-loop-value
invariant-loop-value l = AreNamed l.names l.initial.values l.values l.fields

abbrev pub decreases-loop-value : goal.decreases-loop-value
decreases-loop-value l = length l.values
