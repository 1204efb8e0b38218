use Rattle.std.proofs.Common.{refl, sym, ap, ap₂, ◌∙◌}
use Rattle.ur_syntax.specs.declared.con.ConForm.TheVariants as con
use Rattle.ur_rows.specs.Normal.{nf_field}
use Rattle.ur_rows_reduce.specs.Arguments.{args_of}
use Rattle.ur_rows_normal.specs.Walk.{record_part}
use Rattle.ur_rows_normal.proofs.Walked.{arrow-walks, concat-walks, app-walks, function-walks, given-walks, row-walks, record-walks, dollar-walks, type-walks, fields-walks, inner-tells, body-walks, argument-walks, bare-walks, field-walks, record-field-walks, collects-more, collects-all}
use Rattle.ur_rows_normal.proofs.walk.+walking.Goals as goal

pub walk-returns-in-Empty : goal.walk-returns-in-Empty
walk-returns-in-Empty _ c = function-walks c.walk_function.result c.args.scope.now c.args.con.now c.args.args.now c.in-Lambda.x c.in-Lambda.kind c.get.result.now (c.in-Lambda.is ∙ ap (con.Lambda c.in-Lambda.x c.in-Lambda.kind) (sym c.get.ensures)) c.in-Empty.is c.walk_function.ensures

pub walk-returns-in-More : goal.walk-returns-in-More
walk-returns-in-More _ c = given-walks c.walk_given.result c.args.scope.now c.args.con.now c.args.args.now c.in-Lambda.x c.in-Lambda.kind c.get-in-More.result.now c.in-More.a c.in-More.rest (c.in-Lambda.is ∙ ap (con.Lambda c.in-Lambda.x c.in-Lambda.kind) (sym c.get-in-More.ensures)) c.in-More.is c.walk_given.ensures

pub walk-returns-in_ok-b-in-Arrow : goal.walk-returns-in_ok-b-in-Arrow
walk-returns-in_ok-b-in-Arrow _ c = arrow-walks c.arrow.result c.args.scope.now c.args.con.now (args_of c.args.args.now) c.get-in-Arrow.result.now c.get-in-Arrow-2.result.now c.in_ok-a-in-Arrow.a c.in_ok-b-in-Arrow.b (c.in-Arrow.is ∙ ap₂ (λ p q. con.Arrow p q) (sym c.get-in-Arrow.ensures) (sym c.get-in-Arrow-2.ensures)) c.in_ok-a-in-Arrow.ensures c.in_ok-b-in-Arrow.ensures c.arrow.ensures

pub walk-returns-in_ok-union-in-Concat : goal.walk-returns-in_ok-union-in-Concat
walk-returns-in_ok-union-in-Concat _ c = concat-walks c.row_of.result c.args.scope.now c.args.con.now (args_of c.args.args.now) c.get-in-Concat.result.now c.get-in-Concat-2.result.now c.in_ok-a-in-Concat.a c.in_ok-b-in-Concat.b c.in_ok-union-in-Concat.field-0 (c.in-Concat.is ∙ ap₂ (λ p q. con.Concat p q) (sym c.get-in-Concat.ensures) (sym c.get-in-Concat-2.ensures)) c.in_ok-a-in-Concat.ensures c.in_ok-b-in-Concat.ensures c.in_ok-union-in-Concat.ensures c.row_of.ensures

pub walk-returns-in_ok-a-in-App : goal.walk-returns-in_ok-a-in-App
walk-returns-in_ok-a-in-App _ c = app-walks c.walk-in-App.result c.args.scope.now c.args.con.now (args_of c.args.args.now) c.get-in-App-2.result.now c.get-in-App.result.now c.in_ok-a-in-App.a (c.in-App.is ∙ ap₂ (λ p q. con.App p q) (sym c.get-in-App-2.ensures) (sym c.get-in-App.ensures)) c.in_ok-a-in-App.ensures c.walk-in-App.ensures

pub walk-returns-in_ok-walk_row-in-Row : goal.walk-returns-in_ok-walk_row-in-Row
walk-returns-in_ok-walk_row-in-Row _ c = row-walks c.row_of-in-Row.result c.args.scope.now c.args.con.now (args_of c.args.args.now) c.in-Row.fields c.in_ok-walk_row-in-Row.field-0 c.in-Row.is c.in_ok-walk_row-in-Row.ensures c.row_of-in-Row.ensures

pub walk-returns-in_ok-walk_record-in-Record : goal.walk-returns-in_ok-walk_record-in-Record
walk-returns-in_ok-walk_record-in-Record _ c = record-walks c.record_of.result c.args.scope.now c.args.con.now (args_of c.args.args.now) c.in-Record.fields c.in_ok-walk_record-in-Record.field-0 c.in-Record.is c.in_ok-walk_record-in-Record.ensures c.record_of.ensures

pub walk-returns-in_ok-walk_fields-in-RecordOf : goal.walk-returns-in_ok-walk_fields-in-RecordOf
walk-returns-in_ok-walk_fields-in-RecordOf _ c = dollar-walks c.record_of-in-RecordOf.result c.args.scope.now c.args.con.now (args_of c.args.args.now) c.get-in-RecordOf.result.now c.in_ok-walk_fields-in-RecordOf.field-0 (c.in-RecordOf.is ∙ ap (λ p. con.RecordOf p) (sym c.get-in-RecordOf.ensures)) c.in_ok-walk_fields-in-RecordOf.ensures c.record_of-in-RecordOf.ensures

pub walk_type-returns : goal.walk_type-returns
walk_type-returns _ c = type-walks c.type_of.result c.args.scope.now c.args.con.now c.in_ok-walk.field-0 c.in_ok-walk.ensures c.type_of.ensures

pub walk_fields-returns : goal.walk_fields-returns
walk_fields-returns _ c = fields-walks c.fields_of.result c.args.scope.now c.args.con.now c.in_ok-walk.field-0 c.in_ok-walk.ensures c.fields_of.ensures

pub walk_function-returns : goal.walk_function-returns
walk_function-returns _ c = body-walks c.function.result c.args.scope.now _ c.args.x.now c.args.kind.now c.args.body.now c.in_ok-body.body (λ known w. inner-tells c.args.scope.now _ c.args.x.now c.args.kind.now c.in_ok-depth.depth c.in_ok-variable.field-0 known refl refl c.in_ok-depth.ensures refl c.in_ok-variable.ensures w) c.in_ok-body.ensures c.function.ensures

pub walk_given-returns : goal.walk_given-returns
walk_given-returns _ c = argument-walks c.walk.result c.args.scope.now _ c.args.x.now c.args.body.now c.args.a.now (args_of c.args.rest.now) refl refl refl c.walk.ensures

pub walk_row-loop-i-preserved : goal.walk_row-loop-i-preserved
walk_row-loop-i-preserved _ c = collects-more nf_field c.args.scope.now c.loop-i.row c.in_ok-row.row c.as_slice-fields.result.now c.loop-i.i c.index-fields-i.result c.loop-i.invariant c.loop-i-test.true c.index-fields-i.is c.in_ok-row.ensures

pub walk_row-returns : goal.walk_row-returns
walk_row-returns _ c = collects-all nf_field c.row_of_listed.result c.args.scope.now c.loop-i.row c.as_slice-fields.result.now c.args.fields.now c.loop-i.i c.as_slice-fields.ensures c.loop-i.invariant c.loop-i-test.false c.row_of_listed.ensures

pub walk_record-loop-i-preserved : goal.walk_record-loop-i-preserved
walk_record-loop-i-preserved _ c = collects-more record_part c.args.scope.now c.loop-i.row c.in_ok-row.row c.as_slice-fields.result.now c.loop-i.i c.index-fields-i.result c.loop-i.invariant c.loop-i-test.true c.index-fields-i.is c.in_ok-row.ensures

pub walk_record-returns : goal.walk_record-returns
walk_record-returns _ c = collects-all record_part c.row_of_listed.result c.args.scope.now c.loop-i.row c.as_slice-fields.result.now c.args.fields.now c.loop-i.i c.as_slice-fields.ensures c.loop-i.invariant c.loop-i-test.false c.row_of_listed.ensures

pub walk_field-returns-in_ok-l-in-Bare : goal.walk_field-returns-in_ok-l-in-Bare
walk_field-returns-in_ok-l-in-Bare _ c = bare-walks c.one_more.result c.args.scope.now c.args.field.now c.in-Bare.name c.in_ok-l-in-Bare.l c.unit.result c.args.row c.in-Bare.is c.unit.ensures c.in_ok-l-in-Bare.ensures c.one_more.ensures

pub walk_field-returns-in_ok-l-in-Given : goal.walk_field-returns-in_ok-l-in-Given
walk_field-returns-in_ok-l-in-Given _ c = field-walks c.one_more-in-Given.result c.args.scope.now c.args.field.now c.in-Given.name c.in-Given.con c.in_ok-l-in-Given.l c.in_ok-t-in-Given.t c.args.row c.in-Given.is c.in_ok-t-in-Given.ensures c.in_ok-l-in-Given.ensures c.one_more-in-Given.ensures

pub walk_record_field-returns : goal.walk_record_field-returns
walk_record_field-returns _ c = record-field-walks c.one_more.result c.args.scope.now c.args.field.now c.in_ok-l.l c.in_ok-t.t c.args.row c.in_ok-t.ensures c.in_ok-l.ensures c.one_more.ensures
