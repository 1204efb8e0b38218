use Rattle.std.proofs.Common.{sym, ◌∙◌}
use Rattle.ur_unfold_static.specs.Words.{params_name}
use Rattle.ur_unfold_static.proofs.Loops.{passed, found, nowhere}
use Rattle.ur_unfold_static.proofs.Words.{no-params, params-here}
use Rattle.ur_unfold_static.proofs.cons.in_params.Goals as goal

pub returns-then-in_param : goal.returns-then-in_param
returns-then-in_param c = found (params_name c.args.of) c.args.params.now c.as_slice-all.result.now c.loop-i.i _ _ c.as_slice-all.ensures c.loop-i.invariant
    (params-here c.args.of c.as_slice-all.result.now c.loop-i.i c.index-all-i.result c.loop-i-test.true c.index-all-i.is) (sym c.in_param.ensures ∙ c.if-in_param.true)

pub loop-i-preserved : goal.loop-i-preserved
loop-i-preserved c = passed (params_name c.args.of) c.as_slice-all.result.now c.loop-i.i _ _ c.loop-i.invariant
    (params-here c.args.of c.as_slice-all.result.now c.loop-i.i c.index-all-i.result c.loop-i-test.true c.index-all-i.is) (sym c.in_param.ensures ∙ c.if-in_param.false)

pub returns : goal.returns
returns c = nowhere (params_name c.args.of) c.args.params.now c.as_slice-all.result.now c.loop-i.i (no-params c.args.of) c.as_slice-all.ensures c.loop-i.invariant c.loop-i-test.false c.loop-i.auto.i-end
