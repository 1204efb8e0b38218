use Rattle.std.proofs.Common.{ap}
use Rattle.ur_tree.specs.Typing.{keeps_arrows}
use Rattle.ur_check_scopes.proofs.Loops.{drop-none}
use Rattle.ur_check_scopes.proofs.Giving.{keeps-past, keeps-not, keeps-end}
use Rattle.ur_check_scopes.proofs.arguments.keeps_arrows.Goals as goal

pub loop-i-init : goal.loop-i-init
loop-i-init c = ap (keeps_arrows c.args.args.now) (drop-none c.args.params.now)

pub loop-i-preserved : goal.loop-i-preserved
loop-i-preserved c = keeps-past c.args.args.now c.args.params.now c.loop-i.i c.index-params-i.result c.in_ok-keeps.keeps c.loop-i-test.true c.index-params-i.is c.in_ok-keeps.ensures c.if-not-keeps.false c.loop-i.invariant

pub returns-then-not-keeps : goal.returns-then-not-keeps
returns-then-not-keeps c = keeps-not c.args.args.now c.args.params.now c.loop-i.i c.index-params-i.result c.in_ok-keeps.keeps c.loop-i-test.true c.index-params-i.is c.in_ok-keeps.ensures c.if-not-keeps.true c.loop-i.invariant

pub returns : goal.returns
returns c = keeps-end c.args.args.now c.args.params.now c.loop-i.i c.loop-i-test.false c.loop-i.invariant
