-- The loops have told the parts so far.
use Rattle.std.proofs.Common.{◌≡◌, ◌++◌, take, flat_map}
use Rattle.ur_check.specs.Parts.{of_written, of_value, of_branch, of_val}
use Rattle.ur_check.proofs.exps.+exp.Given as goal

abbrev pub invariant-exps-loop-a : goal.invariant-exps-loop-a
invariant-exps-loop-a l = l.out ≡ l.initial.out ++ flat_map of_written (take l.a-index l.list)

abbrev pub invariant-values-loop-f : goal.invariant-values-loop-f
invariant-values-loop-f l = l.out ≡ l.initial.out ++ flat_map of_value (take l.f-index l.fields)

abbrev pub invariant-branches-loop-b : goal.invariant-branches-loop-b
invariant-branches-loop-b l = l.out ≡ l.initial.out ++ flat_map of_branch (take l.b-index l.all)

abbrev pub invariant-vals-loop-v : goal.invariant-vals-loop-v
invariant-vals-loop-v l = l.out ≡ l.initial.out ++ flat_map of_val (take l.v-index l.all)
