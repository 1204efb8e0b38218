use Rattle.ur_kinds.specs.Decls.{in_function}
use Rattle.ur_kinds.proofs.Projects.{flat-next, flat-end}
use Rattle.ur_kinds.proofs.decls.functions.Goals as goal

pub loop-i-preserved : goal.loop-i-preserved
loop-i-preserved c = flat-next in_function c.args.fs.now c.loop-i.i c.index-fs-i.result _ _ _ c.loop-i-test.true c.index-fs-i.is c.loop-i.invariant c.in_ok-function.ensures

pub returns : goal.returns
returns c = flat-end in_function c.args.fs.now c.loop-i.i _ _ c.loop-i-test.false c.loop-i.invariant
