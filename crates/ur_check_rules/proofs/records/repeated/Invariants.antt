use Rattle.std.proofs.Common.{◌≡◌, length}
use Rattle.ur_typed_rules.specs.Repeats.{twice_of}
use Rattle.ur_check_rules.specs.Written.{written_names}
use Rattle.ur_check_rules.proofs.records.repeated.Given as goal

abbrev pub invariant-loop-first : goal.invariant-loop-first
invariant-loop-first l = twice_of (written_names l.left) ≡ twice_of (written_names l.fields)

abbrev pub decreases-loop-first : goal.decreases-loop-first
decreases-loop-first l = length l.left
