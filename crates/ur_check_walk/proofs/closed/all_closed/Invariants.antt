use Rattle.std.proofs.Common.{length}
use Rattle.ur_typed_rules.specs.Scopes.{Mode}
use Rattle.ur_syntax.specs.declared.exp.ExpForm.{ExpForm}
use Rattle.ur_check_rules.specs.declared.out.Sites.{Sites}
use Rattle.ur_check_walk.specs.Leading.{Brings}
use Rattle.ur_check_walk.proofs.closed.all_closed.Given as goal

abbrev pub invariant-loop-last : goal.invariant-loop-last
invariant-loop-last l = (st after : Sites) (x : ExpForm) (m : Mode) → Brings l.around l.initial.begun l.fn.out after st x m → Brings l.around l.begun l.out after st x m

abbrev pub decreases-loop-last : goal.decreases-loop-last
decreases-loop-last l = length l.begun
