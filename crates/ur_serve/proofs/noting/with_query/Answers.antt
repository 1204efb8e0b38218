use Rattle.std.proofs.Common.{subst}
use Rattle.ur_machine.specs.declared.reached.Reached.TheVariants as reached
use Rattle.ur_machine.specs.Reached.{HasReached}
use Rattle.ur_serve.proofs.Noted.{query_noted_if}
use Rattle.ur_serve.proofs.noting.with_query.Goals as goal

pub returns-in-Some : goal.returns-in-Some
returns-in-Some c = λ code events h. query_noted_if code c.args.asks c.with_ask.result c.args.site c.in-Some.key events c.with_ask.ensures (subst (λ o. HasReached code (reached.Query c.args.site o) events) c.in-Some.is h)
