use Rattle.std.proofs.Common.{sym, subst}
use Rattle.ur_check_scopes.specs.Views.{mode_of}
use Rattle.ur_check_scopes.proofs.Exits.{refused-exit}
use Rattle.ur_check_walk.specs.Leading.{Brings, ClosesOne, Leads}
use Rattle.ur_check_walk.proofs.Leading.{brings-up, brings-part, brings-refused, brings-whole}
use Rattle.ur_check_walk.proofs.closed.all_closed.Goals as goal

pub loop-last-init : goal.loop-last-init
loop-last-init c = λ st after x m b. b

pub loop-last-preserved : goal.loop-last-preserved
loop-last-preserved c = λ st after x m b.
    brings-up c.args.around.now c.pop.new.self c.in-Some.last c.loop-last.out c.in-Whole.made after st x m (subst (λ z. Brings c.args.around.now z c.loop-last.out after st x m) c.in-Some.ensures (c.loop-last.invariant st after x m b)) (subst (ClosesOne c.args.around.now c.in-Some.last c.loop-last.out) c.in-Whole.is c.in_ok-made.ensures.comes)

pub returns-in_err-made-clause-refused : goal.returns-in_err-made-clause-refused
returns-in_err-made-clause-refused c =
    refused-exit c.from_residual.result c.in_err-made.field-0.0 c.from_residual.ensures.1 (λ r h st after x m b. brings-refused c.args.around.now c.pop.new.self c.in-Some.last c.loop-last.out r after st x m (subst (λ z. Brings c.args.around.now z c.loop-last.out after st x m) c.in-Some.ensures (c.loop-last.invariant st after x m b)) h) c.in_err-made.ensures.refused

pub returns-in-Part-clause-comes : goal.returns-in-Part-clause-comes
returns-in-Part-clause-comes c = λ st after x m b.
    subst (λ z. Leads c.args.around.now z st x m after c.in-Part.next.e.now.form (mode_of c.in-Part.next.wanted)) (sym c.in_ok-push-in-Part.ensures.ok)
    (brings-part c.args.around.now c.pop.new.self c.in-Some.last c.in-Part.again c.loop-last.out c.in-Part.next after st x m (subst (λ z. Brings c.args.around.now z c.loop-last.out after st x m) c.in-Some.ensures (c.loop-last.invariant st after x m b)) (subst (ClosesOne c.args.around.now c.in-Some.last c.loop-last.out) c.in-Part.is c.in_ok-made.ensures.comes))

pub returns-clause-comes : goal.returns-clause-comes
returns-clause-comes c = λ st after x m b. brings-whole c.args.around.now c.loop-last.begun c.loop-last.out after st x m c.in_default.ensures.0 (c.loop-last.invariant st after x m b)
