use Rattle.std.proofs.Common.{sym, ◌∙◌}
use Rattle.ur_check_heads.proofs.Binding.{locals-none}
use Rattle.ur_check_heads.proofs.bodies.locals_of.Goals as goal

pub returns-in-None : goal.returns-in-None
returns-in-None c = sym (locals-none c.loop-i.locals c.args.written.now c.args.params.now c.loop-i.i c.in-None.ensures.lookup.3) ∙ c.loop-i.invariant
