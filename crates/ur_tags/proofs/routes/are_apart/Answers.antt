use Rattle.std.proofs.Common.{take, subst}
use Rattle.std.specs.Prelude.{All}
use Rattle.std.specs.Bool.{Decides}
use Rattle.ur_tags.specs.Routes.{AreApart}
use Rattle.ur_tags.proofs.Telling.{never, always, pairs_step, pairs_not, pairs_end}
use Rattle.ur_tags.proofs.routes.are_apart.Goals as goal

pub returns-then-not-is_apart : goal.returns-then-not-is_apart
returns-then-not-is_apart c =
    never (pairs_not c.args.routes.now c.loop-i.i c.index-routes-i.result c.is_apart.result c.loop-i-test.true
    (subst (λ r. Decides c.is_apart.result (All (λ other. AreApart other r) (take c.loop-i.i c.args.routes.now))) c.index-routes-i.is c.is_apart.ensures) c.if-not-is_apart.true)

pub loop-i-preserved : goal.loop-i-preserved
loop-i-preserved c =
    pairs_step c.args.routes.now c.loop-i.i c.index-routes-i.result c.is_apart.result c.loop-i-test.true
    (subst (λ r. Decides c.is_apart.result (All (λ other. AreApart other r) (take c.loop-i.i c.args.routes.now))) c.index-routes-i.is c.is_apart.ensures) c.if-not-is_apart.false
    c.loop-i.invariant

pub returns : goal.returns
returns c = always (pairs_end c.args.routes.now c.loop-i.i c.loop-i-test.false c.loop-i.invariant)
