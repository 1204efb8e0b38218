-- The fields so far.
use Rattle.std.proofs.Common.{sym, ap, ◌∙◌}
use Rattle.std.specs.Prelude.{option_map}
use Rattle.ur_sql.specs.Typing.{kinds_in}
use Rattle.ur_code.specs.RowType.{field_type}
use Rattle.ur_verify_operations.specs.Fields.{pair}
use Rattle.ur_verify_operations.proofs.RowTypes.{missing_at, there_pushed, typed_at_end}
use Rattle.ur_verify_operations.proofs.rows.typed_row.Goals as goal

pub returns-in-None : goal.returns-in-None
returns-in-None c =
    missing_at (field_type (kinds_in c.args.query.now)) c.as_slice-field-items.result.now c.args.query.now.fields c.loop-field.field-index c.field-item.result c.loop-field-test.true
    (ap (field_type (kinds_in c.args.query.now)) (sym c.field-item.is) ∙ sym c.in_ok-field_type.ensures ∙ ap (option_map pair) c.in-None.is) c.as_slice-field-items.ensures

pub loop-field-preserved : goal.loop-field-preserved
loop-field-preserved c =
    there_pushed (field_type (kinds_in c.args.query.now)) c.as_slice-field-items.result.now c.loop-field.field-index c.field-item.result c.loop-field.fields c.push.new.self c.in-Some.field
    c.loop-field-test.true c.loop-field.invariant
    (ap (field_type (kinds_in c.args.query.now)) (sym c.field-item.is) ∙ sym c.in_ok-field_type.ensures ∙ ap (option_map pair) c.in-Some.is) c.in_ok-push-in-Some.ensures.ok

pub returns : goal.returns
returns c =
    typed_at_end (field_type (kinds_in c.args.query.now)) c.as_slice-field-items.result.now c.args.query.now.fields c.loop-field.field-index c.loop-field.fields c.loop-field-test.false c.loop-field.invariant
    c.as_slice-field-items.ensures
