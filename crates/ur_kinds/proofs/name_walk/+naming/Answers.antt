use Rattle.std.proofs.Common.{refl, ap, ◌∙◌}
use Rattle.ur_kinds.specs.Unknown.{unknown_in, unknown_in_mapped}
use Rattle.ur_kinds.specs.Walk.{scope_of}
use Rattle.ur_kinds.proofs.Walking.{fn-eq, arrow-eq, concat-eq, apply-eq, dollar-eq, told-along, told-exit, told-then, fields-stop, record-stop, fields-end, record-end, field-next, record-next, passed}
use Rattle.ur_kinds.proofs.name_walk.+naming.Goals as goal

pub mapped_known-returns-in-App : goal.mapped_known-returns-in-App
mapped_known-returns-in-App t c = told-along c.names_known.result _ _
    (ap (unknown_in_mapped (scope_of c.args.names.now)) (apply-eq c.in-App.field-0 c.in-App.g c.in-App.field-0 c.get.result.now c.in-App.is refl c.get.ensures)) c.names_known.ensures

pub names_known-returns-in_err-names_known-in-Arrow : goal.names_known-returns-in_err-names_known-in-Arrow
names_known-returns-in_err-names_known-in-Arrow t c = told-exit c.from_residual.result c.in_err-names_known-in-Arrow.field-0.0 _ _ _
    (ap (unknown_in (scope_of c.args.names.now)) (arrow-eq c.in-Arrow.a c.in-Arrow.b c.get-in-Arrow.result.now c.in-Arrow.b c.in-Arrow.is c.get-in-Arrow.ensures refl)) c.from_residual.ensures.1
    c.in_err-names_known-in-Arrow.ensures

pub names_known-returns-in_err-names_known-in-Concat : goal.names_known-returns-in_err-names_known-in-Concat
names_known-returns-in_err-names_known-in-Concat t c = told-exit c.from_residual-in_err-names_known-in-Concat.result c.in_err-names_known-in-Concat.field-0.0 _ _ _
    (ap (unknown_in (scope_of c.args.names.now)) (concat-eq c.in-Concat.a c.in-Concat.b c.get-in-Concat.result.now c.in-Concat.b c.in-Concat.is c.get-in-Concat.ensures refl))
    c.from_residual-in_err-names_known-in-Concat.ensures.1 c.in_err-names_known-in-Concat.ensures

pub names_known-returns-in_err-head_known-in-App : goal.names_known-returns-in_err-head_known-in-App
names_known-returns-in_err-head_known-in-App t c = told-exit c.from_residual-in_err-head_known-in-App.result c.in_err-head_known-in-App.field-0.0 _ _ _
    (ap (unknown_in (scope_of c.args.names.now)) (apply-eq c.in-App.f c.in-App.a c.get-in-App.result.now c.in-App.a c.in-App.is c.get-in-App.ensures refl))
    c.from_residual-in_err-head_known-in-App.ensures.1 c.in_err-head_known-in-App.ensures

pub names_known-returns-in-Lambda : goal.names_known-returns-in-Lambda
names_known-returns-in-Lambda t c = told-along c.names_known.result _ _
    (ap (unknown_in (scope_of c.args.names.now)) (fn-eq c.in-Lambda.x c.in-Lambda.kind c.in-Lambda.body c.get.result.now c.in-Lambda.is c.get.ensures)) c.names_known.ensures

pub names_known-returns-in_ok-names_known-in-Arrow : goal.names_known-returns-in_ok-names_known-in-Arrow
names_known-returns-in_ok-names_known-in-Arrow t c = told-then c.names_known-in-Arrow-2.result _ _ _
    (ap (unknown_in (scope_of c.args.names.now)) (arrow-eq c.in-Arrow.a c.in-Arrow.b c.get-in-Arrow.result.now c.get-in-Arrow-2.result.now c.in-Arrow.is c.get-in-Arrow.ensures c.get-in-Arrow-2.ensures))
    c.in_ok-names_known-in-Arrow.ensures c.names_known-in-Arrow-2.ensures

pub names_known-returns-in_ok-names_known-in-Concat : goal.names_known-returns-in_ok-names_known-in-Concat
names_known-returns-in_ok-names_known-in-Concat t c = told-then c.names_known-in-Concat-2.result _ _ _
    (ap (unknown_in (scope_of c.args.names.now)) (concat-eq c.in-Concat.a c.in-Concat.b c.get-in-Concat.result.now c.get-in-Concat-2.result.now c.in-Concat.is c.get-in-Concat.ensures c.get-in-Concat-2.ensures))
    c.in_ok-names_known-in-Concat.ensures c.names_known-in-Concat-2.ensures

pub names_known-returns-in_ok-head_known-in-App : goal.names_known-returns-in_ok-head_known-in-App
names_known-returns-in_ok-head_known-in-App t c = told-then c.names_known-in-App.result _ _ _
    (ap (unknown_in (scope_of c.args.names.now)) (apply-eq c.in-App.f c.in-App.a c.get-in-App.result.now c.get-in-App-2.result.now c.in-App.is c.get-in-App.ensures c.get-in-App-2.ensures))
    c.in_ok-head_known-in-App.ensures c.names_known-in-App.ensures

pub names_known-returns-in-RecordOf : goal.names_known-returns-in-RecordOf
names_known-returns-in-RecordOf t c = told-along c.names_known-in-RecordOf.result _ _
    (ap (unknown_in (scope_of c.args.names.now)) (dollar-eq c.in-RecordOf.r c.get-in-RecordOf.result.now c.in-RecordOf.is c.get-in-RecordOf.ensures)) c.names_known-in-RecordOf.ensures

pub fields_known-returns-in_err-field_known : goal.fields_known-returns-in_err-field_known
fields_known-returns-in_err-field_known t c = told-exit c.from_residual.result c.in_err-field_known.field-0.0 _ _ _
    (fields-stop (scope_of c.args.names.now) c.args.fields.now c.as_slice-fields.result.now c.loop-i.i c.index-fields-i.result c.as_slice-fields.ensures c.loop-i-test.true c.index-fields-i.is c.loop-i.invariant)
    c.from_residual.ensures.1 c.in_err-field_known.ensures

pub fields_known-returns : goal.fields_known-returns
fields_known-returns t c = fields-end (scope_of c.args.names.now) c.args.fields.now c.as_slice-fields.result.now c.loop-i.i c.as_slice-fields.ensures c.loop-i-test.false c.loop-i.auto.i-end c.loop-i.invariant

pub fields_known-loop-i-preserved : goal.fields_known-loop-i-preserved
fields_known-loop-i-preserved t c = c.loop-i.invariant ∙
    passed _ _ _ (field-next (scope_of c.args.names.now) c.as_slice-fields.result.now c.loop-i.i c.index-fields-i.result c.loop-i-test.true c.index-fields-i.is) c.in_ok-field_known.ensures

pub record_known-returns-in_err-record_field_known : goal.record_known-returns-in_err-record_field_known
record_known-returns-in_err-record_field_known t c = told-exit c.from_residual.result c.in_err-record_field_known.field-0.0 _ _ _
    (record-stop (scope_of c.args.names.now) c.args.fields.now c.as_slice-fields.result.now c.loop-i.i c.index-fields-i.result c.as_slice-fields.ensures c.loop-i-test.true c.index-fields-i.is c.loop-i.invariant)
    c.from_residual.ensures.1 c.in_err-record_field_known.ensures

pub record_known-returns : goal.record_known-returns
record_known-returns t c = record-end (scope_of c.args.names.now) c.args.fields.now c.as_slice-fields.result.now c.loop-i.i c.as_slice-fields.ensures c.loop-i-test.false c.loop-i.auto.i-end c.loop-i.invariant

pub record_known-loop-i-preserved : goal.record_known-loop-i-preserved
record_known-loop-i-preserved t c = c.loop-i.invariant ∙
    passed _ _ _ (record-next (scope_of c.args.names.now) c.as_slice-fields.result.now c.loop-i.i c.index-fields-i.result c.loop-i-test.true c.index-fields-i.is) c.in_ok-record_field_known.ensures
