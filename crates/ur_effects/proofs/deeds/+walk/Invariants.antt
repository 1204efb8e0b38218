-- Each loop has the acts of the terms so far.
use Rattle.std.proofs.Common.{◌≡◌, ◌++◌, map, take, flat_map}
use Rattle.ur_terms.specs.Shape.{deeds}
use Rattle.ur_effects.specs.Acts.{act_deed}
use Rattle.ur_effects.proofs.deeds.+walk.Given as goal

abbrev pub invariant-with_terms-loop-term : goal.invariant-with_terms-loop-term
invariant-with_terms-loop-term l = map act_deed l.more ≡ map act_deed l.fn.acts ++ flat_map deeds (take l.term-index l.term-items)

abbrev pub invariant-with_branches-loop-branch : goal.invariant-with_branches-loop-branch
invariant-with_branches-loop-branch l = map act_deed l.more ≡ map act_deed l.fn.acts ++ flat_map (λ branch. deeds branch.body) (take l.branch-index l.branch-items)
