use Rattle.ur_http.specs.Fields.{cookies_of}
use Rattle.ur_http.proofs.Pairs.{cookies_step}
use Rattle.ur_http.proofs.cookies.cookies.Goals as goal

pub loop-field-init : goal.loop-field-init
unfolding cookies_of
loop-field-init c = c.new-cookies.ensures

pub loop-field-preserved : goal.loop-field-preserved
loop-field-preserved c = cookies_step c.args.fields.now c.loop-field.field-index _ _ _ c.loop-field-test.true c.loop-field.invariant c.in_ok-add_field.ensures
