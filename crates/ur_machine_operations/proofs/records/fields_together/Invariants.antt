use Rattle.std.proofs.Common.{◌≡◌, length}
use Rattle.ur_terms.specs.Values.{fields_together}
use Rattle.ur_machine_operations.proofs.records.fields_together.Given as goal

abbrev pub invariant-loop-name : goal.invariant-loop-name
invariant-loop-name l = fields_together l.more l.all ≡ fields_together l.initial.more l.initial.all

abbrev pub decreases-loop-name : goal.decreases-loop-name
decreases-loop-name l = length l.more
