use Rattle.std.proofs.Common.{refl, drop, ◌+◌, drop_of_length-le}
use Rattle.ur_check_scopes.proofs.Exits.{refused-exit}
use Rattle.ur_check_scopes.proofs.Loops.{drop-here, drop-none}
use Rattle.ur_check_heads.proofs.Grouping.{group-start, group-past, group-broken, group-end}
use Rattle.ur_check_heads.proofs.functions.functions_in.Goals as goal

pub loop-i-init : goal.loop-i-init
loop-i-init c = group-start c.args.project.now c.args.functions.now (drop 0 c.args.functions.now) (drop-none c.args.functions.now)

pub loop-i-preserved : goal.loop-i-preserved
loop-i-preserved c =
    group-past _ _ _ c.args.functions.now (drop c.loop-i.i c.args.functions.now) (drop (c.loop-i.i + 1) c.args.functions.now) c.index-functions-i.result
    (drop-here c.args.functions.now c.loop-i.i c.index-functions-i.result c.loop-i-test.true c.index-functions-i.is)
    (λ home z s. let w = c.in_ok-head.ensures.head home z s in (w.0, w.1, c.in_ok-add_function.ensures home z c.index-functions-i.result w.0 s refl w.2)) c.loop-i.invariant

pub returns-in_err-head-clause-refused : goal.returns-in_err-head-clause-refused
returns-in_err-head-clause-refused c =
    refused-exit c.from_residual.result c.in_err-head.field-0.0 c.from_residual.ensures.1
    (λ r h. group-broken _ _ c.args.functions.now (drop c.loop-i.i c.args.functions.now) (drop (c.loop-i.i + 1) c.args.functions.now) c.index-functions-i.result r
    (drop-here c.args.functions.now c.loop-i.i c.index-functions-i.result c.loop-i-test.true c.index-functions-i.is) c.loop-i.invariant h)
    c.in_err-head.ensures.refused

pub returns-clause-ok : goal.returns-clause-ok
returns-clause-ok c = group-end _ _ c.args.functions.now (drop c.loop-i.i c.args.functions.now) (drop_of_length-le c.args.functions.now c.loop-i-test.false) c.loop-i.invariant
