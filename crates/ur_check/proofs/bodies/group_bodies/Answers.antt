use Rattle.std.proofs.Common.{refl, drop, ◌+◌, drop_of_length-le}
use Rattle.ur_check_scopes.proofs.Exits.{refused-exit}
use Rattle.ur_check_scopes.proofs.Loops.{drop-here, drop-none}
use Rattle.ur_check.proofs.Grouping.{has-heading, group-start, group-past, group-broken, group-end}
use Rattle.ur_check.proofs.bodies.group_bodies.Goals as goal

pub loop-i-init : goal.loop-i-init
loop-i-init c = group-start c.args.project.now c.args.first c.args.functions.now (drop 0 c.args.functions.now) c.args.bodies.now (drop-none c.args.functions.now)

pub function_body-requires : goal.function_body-requires
function_body-requires c =
    has-heading c.args.project.now c.args.first c.loop-i.i c.args.functions.now c.index-functions-i.result c.in-Some.found.now.head c.loop-i-test.true c.index-functions-i.is (c.in-Some.found.now, c.in-Some.ensures, refl) c.requires

pub loop-i-preserved : goal.loop-i-preserved
loop-i-preserved c =
    group-past c.args.project.now c.args.first c.loop-i.i c.args.functions.now (drop c.loop-i.i c.args.functions.now) (drop (c.loop-i.i + 1) c.args.functions.now) c.index-functions-i.result c.in-Some.found.now.head c.args.bodies.now c.loop-i.bodies
    c.function_body.new.bodies c.loop-i-test.true c.index-functions-i.is (drop-here c.args.functions.now c.loop-i.i c.index-functions-i.result c.loop-i-test.true c.index-functions-i.is) (c.in-Some.found.now, c.in-Some.ensures, refl) c.in_ok-function_body-in-Some.ensures.ok c.loop-i.invariant

pub returns-in_err-function_body-in-Some-clause-refused : goal.returns-in_err-function_body-in-Some-clause-refused
returns-in_err-function_body-in-Some-clause-refused c =
    refused-exit c.from_residual.result c.in_err-function_body-in-Some.field-0.0 c.from_residual.ensures.1
    (λ r h. group-broken c.args.project.now c.args.first c.loop-i.i c.args.functions.now (drop c.loop-i.i c.args.functions.now) (drop (c.loop-i.i + 1) c.args.functions.now) c.index-functions-i.result c.in-Some.found.now.head c.args.bodies.now c.loop-i.bodies r
    c.loop-i-test.true c.index-functions-i.is (drop-here c.args.functions.now c.loop-i.i c.index-functions-i.result c.loop-i-test.true c.index-functions-i.is) (c.in-Some.found.now, c.in-Some.ensures, refl) h c.loop-i.invariant)
    c.in_err-function_body-in-Some.ensures.refused

pub returns-clause-ok : goal.returns-clause-ok
returns-clause-ok c = group-end c.args.project.now c.args.first c.args.functions.now (drop c.loop-i.i c.args.functions.now) c.args.bodies.now c.loop-i.bodies (drop_of_length-le c.args.functions.now c.loop-i-test.false) c.loop-i.invariant
