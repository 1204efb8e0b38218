use Rattle.std.proofs.Common.{◌<◌, subst, sym}
use Rattle.ur_serve.specs.Serving.{ServerState}
use Rattle.code_cases.proofs.Readiness.{ready_for_all}
use Rattle.code_cases.proofs.serving.started.Goals as goal

pub returns-in-Ok-new : goal.returns-in-Ok-new
returns-in-Ok-new c =
    ready_for_all c.in-Ok-new.server c.new.new.keeper c.in-Ok-new.ensures.ready c.in-Ok-new.ensures.numbers
    (subst (λ (s : ServerState). s.steps < 4294967296) (sym c.in-Ok-new.ensures.made) c.ranges.steps.fits)
