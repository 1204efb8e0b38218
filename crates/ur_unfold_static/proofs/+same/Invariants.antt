-- Each loop has found the parts so far to be the same.
use Rattle.std.proofs.Common.{◌≡◌, take}
use Rattle.ur_unfold_static.proofs.+same.Given as goal

abbrev pub invariant-exps::same_exps-loop-i : goal.invariant-exps::same_exps-loop-i
invariant-exps::same_exps-loop-i l = take l.i l.xs ≡ take l.i l.ys

abbrev pub invariant-exps::same_fields-loop-i : goal.invariant-exps::same_fields-loop-i
invariant-exps::same_fields-loop-i l = take l.i l.xs ≡ take l.i l.ys

abbrev pub invariant-exps::same_branches-loop-i : goal.invariant-exps::same_branches-loop-i
invariant-exps::same_branches-loop-i l = take l.i l.xs ≡ take l.i l.ys

abbrev pub invariant-markups::same_markups-loop-i : goal.invariant-markups::same_markups-loop-i
invariant-markups::same_markups-loop-i l = take l.i l.xs ≡ take l.i l.ys
