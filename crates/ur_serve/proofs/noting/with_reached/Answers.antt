use Rattle.std.proofs.Common.{Some, subst}
use Rattle.ur_machine.specs.Reached.{HasReached}
use Rattle.ur_serve.proofs.Noted.{none_noted}
use Rattle.ur_serve.proofs.noting.with_reached.Goals as goal

pub returns-in-Nothing : goal.returns-in-Nothing
returns-in-Nothing c = λ code events h. none_noted code (Some c.args.asks) events (subst (λ r. HasReached code r events) c.in-Nothing.is h)

pub returns-in-Query : goal.returns-in-Query
returns-in-Query c = λ code events h. c.with_query.ensures code events (subst (λ r. HasReached code r events) c.in-Query.is h)
