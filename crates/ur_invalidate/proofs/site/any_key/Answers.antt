use Rattle.ur_values.specs.declared.schema.ColumnKind.TheVariants as kind
use Rattle.ur_invalidate.proofs.Pointwise.{any_more}
use Rattle.ur_invalidate.proofs.site.any_key.Goals as goal

pub loop-param-preserved : goal.loop-param-preserved
loop-param-preserved c =
    any_more kind.Int c.as_slice-params.result.now c.loop-param._param-index c.loop-param.keys c.push.new.self c.loop-param-test.true c.loop-param.invariant c.in_ok-push.ensures.ok
