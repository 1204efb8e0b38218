use Rattle.ur_kinds.proofs.Projects.{modules-next, modules-end}
use Rattle.ur_kinds.proofs.decls.modules.Goals as goal

pub loop-i-preserved : goal.loop-i-preserved
loop-i-preserved c = modules-next c.args.names.now c.args.xs.now c.loop-i.i c.index-names-i.result c.index-xs-i.result _ _ _ c.loop-i-test.true c.requires c.index-names-i.is c.index-xs-i.is c.loop-i.invariant c.in_ok-module.ensures

pub returns : goal.returns
returns c = modules-end c.args.names.now c.args.xs.now c.loop-i.i _ _ c.requires c.loop-i-test.false c.loop-i.invariant
