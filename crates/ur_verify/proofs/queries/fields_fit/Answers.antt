-- Each field fits.
use Rattle.std.proofs.Common.{refl}
use Rattle.ur_sql.specs.Typing.{FieldFits}
use Rattle.ur_verify.specs.Scope.{scope}
use Rattle.ur_verify.proofs.Loops.{all_step, all_end}
use Rattle.ur_verify.proofs.queries.fields_fit.Goals as goal

pub loop-field-preserved : goal.loop-field-preserved
loop-field-preserved c =
    all_step (FieldFits (scope c.args.params.now c.args.items.now)) c.args.fields.now c.loop-field.field-index c.field-item.result c.loop-field-test.true c.field-item.is
    (c.field_fits.ensures.0 c.if-not-field_fits.false) c.loop-field.invariant

pub returns : goal.returns
returns c = ((λ e. all_end (FieldFits (scope c.args.params.now c.args.items.now)) c.args.fields.now c.loop-field.field-index c.loop-field-test.false c.loop-field.invariant), (λ a. refl))
