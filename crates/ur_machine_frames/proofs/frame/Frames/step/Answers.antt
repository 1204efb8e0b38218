use Rattle.std.proofs.Common.{sym, subst}
use Rattle.ur_machine_frames.specs.Steps.{Steps}
use Rattle.ur_machine_frames.proofs.Giving.{entered}
use Rattle.ur_machine_frames.proofs.frame.Frames.step.Goals as goal

pub returns-in-Enter-clause-steps : goal.returns-in-Enter-clause-steps
returns-in-Enter-clause-steps g c = subst (λ z. Steps c.args.functions.now c.args.self.now z c.enter-next.new.self c.enter-next.result) (sym c.in-Enter.is)
    (entered c.args.functions.now c.args.self.now c.enter-next.new.self c.in-Enter.term c.enter-next.result c.enter-next.ensures.leads)
