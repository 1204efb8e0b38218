-- The columns so far.
use Rattle.std.proofs.Common.{refl, sym, ap, ◌∙◌}
use Rattle.std.specs.Prelude.{option_map}
use Rattle.ur_sql.specs.Typing.{kinds_in}
use Rattle.ur_code.specs.RowType.{column_type}
use Rattle.ur_verify_operations.specs.Fields.{pair}
use Rattle.ur_verify_operations.proofs.RowTypes.{missing_at, there_pushed, typed_at_end}
use Rattle.ur_verify_operations.proofs.rows.columns_type.Goals as goal

pub returns-in-None : goal.returns-in-None
returns-in-None c =
    missing_at (column_type (kinds_in c.args.query.now)) c.args.columns.now c.args.columns.now c.loop-column.column-index _ c.loop-column-test.true
    (sym c.in_ok-column_field.ensures ∙ ap (option_map pair) c.in-None.is) refl

pub loop-column-preserved : goal.loop-column-preserved
loop-column-preserved c =
    there_pushed (column_type (kinds_in c.args.query.now)) c.args.columns.now c.loop-column.column-index _ c.loop-column.fields c.push.new.self c.in-Some.field c.loop-column-test.true
    c.loop-column.invariant (sym c.in_ok-column_field.ensures ∙ ap (option_map pair) c.in-Some.is) c.in_ok-push-in-Some.ensures.ok

pub returns : goal.returns
returns c =
    typed_at_end (column_type (kinds_in c.args.query.now)) c.args.columns.now c.args.columns.now c.loop-column.column-index c.loop-column.fields c.loop-column-test.false c.loop-column.invariant refl
