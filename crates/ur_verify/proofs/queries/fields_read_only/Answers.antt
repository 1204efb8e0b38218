-- Each field reads only these columns.
use Rattle.std.proofs.Common.{refl}
use Rattle.ur_sql.specs.Typing.{FieldReadsOnly}
use Rattle.ur_verify.proofs.Loops.{all_step, all_end}
use Rattle.ur_verify.proofs.queries.fields_read_only.Goals as goal

pub loop-field-preserved : goal.loop-field-preserved
loop-field-preserved c =
    all_step (FieldReadsOnly c.args.group.now) c.args.fields.now c.loop-field.field-index c.field-item.result c.loop-field-test.true c.field-item.is
    (c.field_reads_only.ensures.0 c.if-not-field_reads_only.false) c.loop-field.invariant

pub returns : goal.returns
returns c = ((λ e. all_end (FieldReadsOnly c.args.group.now) c.args.fields.now c.loop-field.field-index c.loop-field-test.false c.loop-field.invariant), (λ a. refl))
