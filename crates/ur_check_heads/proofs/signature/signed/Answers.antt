use Rattle.std.proofs.Common.{refl, drop, ◌+◌, drop_of_length-le}
use Rattle.ur_check_scopes.proofs.Exits.{refused-exit}
use Rattle.ur_check_scopes.proofs.Loops.{drop-here, drop-none}
use Rattle.ur_check_heads.proofs.RoutesEntering.{signed-start, signed-past, signed-broken, signed-end}
use Rattle.ur_check_heads.proofs.signature.signed.Goals as goal

pub loop-i-init : goal.loop-i-init
loop-i-init c = signed-start c.args.project.now c.args.vals.now (drop 0 c.args.vals.now) c.new-list.result (drop-none c.args.vals.now) c.new-list.ensures

pub loop-i-preserved : goal.loop-i-preserved
loop-i-preserved c =
    signed-past c.args.project.now c.args.vals.now (drop c.loop-i.i c.args.vals.now) (drop (c.loop-i.i + 1) c.args.vals.now) c.loop-i.list _ c.index-vals-i.result c.in_ok-number.number
    (drop-here c.args.vals.now c.loop-i.i c.index-vals-i.result c.loop-i-test.true c.index-vals-i.is) c.in_ok-push.ensures.ok c.in_ok-number.ensures.ok c.loop-i.invariant

pub returns-in_err-number-clause-refused : goal.returns-in_err-number-clause-refused
returns-in_err-number-clause-refused c =
    refused-exit c.from_residual.result c.in_err-number.field-0.0 c.from_residual.ensures.1
    (λ r h. signed-broken c.args.project.now c.args.vals.now (drop c.loop-i.i c.args.vals.now) (drop (c.loop-i.i + 1) c.args.vals.now) c.loop-i.list c.index-vals-i.result r
    (drop-here c.args.vals.now c.loop-i.i c.index-vals-i.result c.loop-i-test.true c.index-vals-i.is) c.loop-i.invariant h)
    c.in_err-number.ensures.refused

pub returns-clause-ok : goal.returns-clause-ok
returns-clause-ok c = signed-end c.args.project.now c.args.vals.now (drop c.loop-i.i c.args.vals.now) c.loop-i.list (drop_of_length-le c.args.vals.now c.loop-i-test.false) c.loop-i.invariant
