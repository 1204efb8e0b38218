-- The loops have told the items so far.
use Rattle.std.proofs.Common.{◌≡◌, ◌++◌, take, flat_map, map}
use Rattle.ur_kinds.specs.Acts.{acts}
use Rattle.ur_kinds.specs.Exps.{in_field, in_branch, in_let, at_marks, each_of}
use Rattle.ur_kinds.proofs.exps.+exp.Given as goal

abbrev pub invariant-record-loop-f : goal.invariant-record-loop-f
invariant-record-loop-f l = acts l.out ≡ acts l.initial.out ++ flat_map (in_field l.span) (take l.f-index l.fields)

abbrev pub invariant-all_branches-loop-b : goal.invariant-all_branches-loop-b
invariant-all_branches-loop-b l = acts l.out ≡ acts l.initial.out ++ flat_map in_branch (take l.b-index l.branches)

abbrev pub invariant-all_vals-loop-v : goal.invariant-all_vals-loop-v
invariant-all_vals-loop-v l = acts l.out ≡ acts l.initial.out ++ flat_map in_let (take l.v-index l.vals)

abbrev pub invariant-marked-loop-mark : goal.invariant-marked-loop-mark
invariant-marked-loop-mark l = acts l.out ≡ acts l.initial.out ++ at_marks (each_of l.splices) (map acts l.attributes) (take l.mark-index l.marks)

abbrev pub invariant-each_of-loop-e : goal.invariant-each_of-loop-e
invariant-each_of-loop-e l = map acts l.all ≡ each_of (take l.e-index l.es)
