use Rattle.std.proofs.Common.{subst}
use Rattle.ur_serve.specs.Noting.{IsNoted}
use Rattle.ur_serve.proofs.Noted.{no_more_noted}
use Rattle.ur_serve.proofs.noting.note.Goals as goal

pub returns-in-None : goal.returns-in-None
returns-in-None c = λ code events h. no_more_noted code c.args.asks.now c.take.new.self events c.in-None.ensures.after

pub returns-in-Some : goal.returns-in-Some
returns-in-Some c = λ code events h. subst (λ o. IsNoted code o c.with_reached.result events) c.in-Some.ensures.value (c.with_reached.ensures code events h)
