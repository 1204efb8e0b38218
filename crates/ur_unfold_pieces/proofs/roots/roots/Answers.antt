use Rattle.std.proofs.Common.{List, subst}
use Rattle.ur_tree.specs.declared.typed.Function.{Function}
use Rattle.ur_unfold_pieces.specs.Rooted.{AreRootKeys}
use Rattle.ur_unfold_pieces.proofs.Rooting.{roots_end}
use Rattle.ur_unfold_pieces.proofs.roots.roots.Goals as goal

pub returns : goal.returns
returns c = subst (λ (fs : List Function). AreRootKeys fs c.loop-i.instances.keys) c.as_slice-all.ensures (roots_end c.as_slice-all.result.now c.loop-i.i c.loop-i.instances.keys c.loop-i-test.false c.loop-i.invariant)
