use Rattle.std.proofs.Common.{drop, ◌+◌, drop_of_length-le}
use Rattle.ur_check_scopes.proofs.Exits.{refused-exit}
use Rattle.ur_check_scopes.proofs.Loops.{drop-here, drop-none}
use Rattle.ur_check.proofs.Declaring.{declared-start, declared-some, declared-past, declared-broken, declared-end}
use Rattle.ur_check.proofs.modules.declarations.Goals as goal

pub loop-i-init : goal.loop-i-init
loop-i-init c = declared-start c.args.project.now c.args.bodies.now c.args.decls.now (drop 0 c.args.decls.now) (drop-none c.args.decls.now)

pub declaration-requires : goal.declaration-requires
declaration-requires c = declared-some c.args.project.now c.loop-i.project c.args.bodies.now c.loop-i.bodies c.args.decls.now (drop c.loop-i.i c.args.decls.now) c.loop-i.invariant c.requires

pub loop-i-preserved : goal.loop-i-preserved
loop-i-preserved c =
    declared-past c.args.project.now c.loop-i.project c.declaration.new.project c.args.bodies.now c.loop-i.bodies c.declaration.new.bodies c.args.decls.now (drop c.loop-i.i c.args.decls.now) (drop (c.loop-i.i + 1) c.args.decls.now) c.index-decls-i.result
    (drop-here c.args.decls.now c.loop-i.i c.index-decls-i.result c.loop-i-test.true c.index-decls-i.is) c.in_ok-declaration.ensures.ok c.loop-i.invariant

pub returns-in_err-declaration-clause-refused : goal.returns-in_err-declaration-clause-refused
returns-in_err-declaration-clause-refused c =
    refused-exit c.from_residual.result c.in_err-declaration.field-0.0 c.from_residual.ensures.1
    (λ r h. declared-broken c.args.project.now c.loop-i.project c.args.bodies.now c.loop-i.bodies c.args.decls.now (drop c.loop-i.i c.args.decls.now) (drop (c.loop-i.i + 1) c.args.decls.now) c.index-decls-i.result r
    (drop-here c.args.decls.now c.loop-i.i c.index-decls-i.result c.loop-i-test.true c.index-decls-i.is) h c.loop-i.invariant)
    c.in_err-declaration.ensures.refused

pub returns-clause-ok : goal.returns-clause-ok
returns-clause-ok c = declared-end c.args.project.now c.loop-i.project c.args.bodies.now c.loop-i.bodies c.args.decls.now (drop c.loop-i.i c.args.decls.now) (drop_of_length-le c.args.decls.now c.loop-i-test.false) c.loop-i.invariant
