use Rattle.std.proofs.Common.{sym, ◌∙◌}
use Rattle.ur_check_cases.proofs.Binders.{locals-none}
use Rattle.ur_check_cases.proofs.patterns.locals_with.Goals as goal

pub returns-in-None : goal.returns-in-None
returns-in-None c = sym (locals-none c.loop-i.locals c.args.names.now c.args.types.now c.loop-i.i c.in-None.ensures.lookup.3) ∙ c.loop-i.invariant
