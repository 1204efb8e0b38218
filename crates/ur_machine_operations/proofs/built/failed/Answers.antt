use Rattle.std.proofs.Common.{ap, sym}
use Rattle.ur_terms.specs.State.{Error}
use Rattle.ur_machine_operations.proofs.built.failed.Goals as goal

pub returns-in-Ok : goal.returns-in-Ok
returns-in-Ok c = λ s. ap (λ b. Error b s.events) (sym c.in-Ok.ensures)
