use Rattle.std.proofs.Common.{refl, sym, subst, ◌∙◌, IfOk}
use Rattle.ur_base.specs.Stopping.{IfRefused}
use Rattle.ur_syntax.specs.declared.kind.Kind.TheVariants as kind
use Rattle.ur_syntax.specs.declared.con.ConForm.TheVariants as con
use Rattle.ur_syntax.specs.Forms.{fn_con, arrow_con, concat_con, dollar_con}
use Rattle.ur_syntax.specs.HasKind.{HasKind, arrow_type, concat, name, dollar as rule-dollar}
use Rattle.ur_kinds.specs.Walk.{scope_of}
use Rattle.ur_kinds.specs.Faults.{HasFault, bad_kind, no_variable, body, from, to, left, right, dollar}
use Rattle.ur_kinds.proofs.Walking.{fault-here, fn-eq, arrow-eq, concat-eq, apply-eq, dollar-eq}
use Rattle.ur_kinds.proofs.Fitting.{refused-exit, refused-along, ok-along, lift-misfit, lift-fault, lift-kind, as-misfit, as-other, fn-kind, map-argument, form-argument, map-kind, form-kind, head-fault, map-made, map-fault, given-fault, given-kind, argument-fault, no-function, name-same, app-head-fault, app-kind, app-fault, bare-fault, name-fault, type-fault, record-type-fault, record-name-fault, row-goes-on, record-goes-on, row-kinded, record-kinded, row-fault, record-fault}
use Rattle.ur_kinds.proofs.walk.+kinding.Goals as goal

pub applied-returns-in_err-of_kind-in-Map-clause-refused : goal.applied-returns-in_err-of_kind-in-Map-clause-refused
applied-returns-in_err-of_kind-in-Map-clause-refused t c = refused-exit c.from_residual.result c.in_err-of_kind-in-Map.field-0.0 c.from_residual.ensures.1
    (map-argument c.args.a.now c.in-Map.is)
    c.in_err-of_kind-in-Map.ensures.refused

pub applied-returns-in_err-of_kind-in-Form-clause-refused : goal.applied-returns-in_err-of_kind-in-Form-clause-refused
applied-returns-in_err-of_kind-in-Form-clause-refused t c = refused-exit c.from_residual-in_err-of_kind-in-Form.result c.in_err-of_kind-in-Form.field-0.0 c.from_residual-in_err-of_kind-in-Form.ensures.1
    (form-argument c.args.a.now c.in-Form.is)
    c.in_err-of_kind-in-Form.ensures.refused

pub applied-returns-in_ok-of_kind-in-Map-clause-kind : goal.applied-returns-in_ok-of_kind-in-Map-clause-kind
applied-returns-in_ok-of_kind-in-Map-clause-kind t c = map-kind c.args.a.now c.in-Map.is c.in_ok-of_kind-in-Map.ensures.kind

pub applied-returns-in_ok-of_kind-in-Form-clause-kind : goal.applied-returns-in_ok-of_kind-in-Form-clause-kind
applied-returns-in_ok-of_kind-in-Form-clause-kind t c = form-kind c.args.a.now c.in-Form.is c.in_ok-of_kind-in-Form.ensures.kind

pub field-returns-in_err-label-in-Given-clause-refused : goal.field-returns-in_err-label-in-Given-clause-refused
field-returns-in_err-label-in-Given-clause-refused t c = refused-exit c.from_residual.result c.in_err-label-in-Given.field-0.0 c.from_residual.ensures.1
    (name-fault c.args.field.now c.in-Given.name c.in-Given.con c.in-Given.is)
    c.in_err-label-in-Given.ensures.refused

pub field-returns-in-Bare-clause-refused : goal.field-returns-in-Bare-clause-refused
field-returns-in-Bare-clause-refused t c = refused-along c.label.result (bare-fault c.args.field.now c.in-Bare.name c.in-Bare.is) c.label.ensures.refused

pub field-returns-in_ok-label-in-Given-clause-refused : goal.field-returns-in_ok-label-in-Given-clause-refused
field-returns-in_ok-label-in-Given-clause-refused t c = refused-along c.of_kind.result (type-fault c.args.field.now c.in-Given.name c.in-Given.con c.in-Given.is) c.of_kind.ensures.refused

pub function-returns-then-not-is_plain-clause-refused : goal.function-returns-then-not-is_plain-clause-refused
function-returns-then-not-is_plain-clause-refused t c = fault-here {f = bad_kind c.args.kind.now kind.Star} (no_variable (sym c.is_plain.ensures ∙ c.if-not-is_plain.true)) c.in_ok-bad_kind.ensures

pub function-returns-in_err-result-clause-refused : goal.function-returns-in_err-result-clause-refused
function-returns-in_err-result-clause-refused t c = refused-exit c.from_residual-in_err-result.result c.in_err-result.field-0.0 c.from_residual-in_err-result.ensures.1
    (lift-fault (fn_con c.args.x.now c.args.kind.now c.args.body.now.span c.args.body.now.form) refl body)
    c.in_err-result.ensures.refused

pub function-returns-clause-kind : goal.function-returns-clause-kind
function-returns-clause-kind t c = fn-kind c.in_ok-arrow.field-0 c.in_ok-copy_kind.field-0 (sym c.is_plain.ensures ∙ c.if-not-is_plain.false) c.in_ok-arrow.ensures c.in_ok-copy_kind.ensures c.in_ok-result.ensures.kind

pub given-returns-in_err-of_kind-in-Arrow-clause-refused : goal.given-returns-in_err-of_kind-in-Arrow-clause-refused
given-returns-in_err-of_kind-in-Arrow-clause-refused t c = refused-exit c.from_residual.result c.in_err-of_kind-in-Arrow.field-0.0 c.from_residual.ensures.1
    (given-fault c.args.kind.now c.in-Arrow.from c.in-Arrow.to c.get.result.now c.args.a.now c.in-Arrow.is c.get.ensures)
    c.in_err-of_kind-in-Arrow.ensures.refused

pub head_of-returns-in_err-kind_in-clause-refused : goal.head_of-returns-in_err-kind_in-clause-refused
head_of-returns-in_err-kind_in-clause-refused t c = refused-exit c.from_residual-in_err-kind_in.result c.in_err-kind_in.field-0.0 c.from_residual-in_err-kind_in.ensures.1
    (head-fault (sym c.is_form.ensures ∙ c.if-is_form.false) (sym c.is_map.ensures ∙ c.if-is_map.false))
    c.in_err-kind_in.ensures.refused

pub kind_in-returns-in_err-of_kind-in-Arrow-clause-refused : goal.kind_in-returns-in_err-of_kind-in-Arrow-clause-refused
kind_in-returns-in_err-of_kind-in-Arrow-clause-refused t c = refused-exit c.from_residual.result c.in_err-of_kind-in-Arrow.field-0.0 c.from_residual.ensures.1
    (lift-misfit (arrow_con c.get-in-Arrow.result.now.span c.get-in-Arrow.result.now.form c.in-Arrow.b.span c.in-Arrow.b.form) (arrow-eq c.in-Arrow.a c.in-Arrow.b c.get-in-Arrow.result.now c.in-Arrow.b c.in-Arrow.is c.get-in-Arrow.ensures refl) from)
    c.in_err-of_kind-in-Arrow.ensures.refused

pub kind_in-returns-in_err-of_kind-in-Arrow-2-clause-refused : goal.kind_in-returns-in_err-of_kind-in-Arrow-2-clause-refused
kind_in-returns-in_err-of_kind-in-Arrow-2-clause-refused t c = refused-exit c.from_residual-in_err-of_kind-in-Arrow-2.result c.in_err-of_kind-in-Arrow-2.field-0.0 c.from_residual-in_err-of_kind-in-Arrow-2.ensures.1
    (lift-misfit (arrow_con c.get-in-Arrow.result.now.span c.get-in-Arrow.result.now.form c.get-in-Arrow-2.result.now.span c.get-in-Arrow-2.result.now.form) (arrow-eq c.in-Arrow.a c.in-Arrow.b c.get-in-Arrow.result.now c.get-in-Arrow-2.result.now c.in-Arrow.is c.get-in-Arrow.ensures c.get-in-Arrow-2.ensures) to)
    c.in_err-of_kind-in-Arrow-2.ensures.refused

pub kind_in-returns-in_ok-of_kind-in-Arrow-2-clause-kind : goal.kind_in-returns-in_ok-of_kind-in-Arrow-2-clause-kind
kind_in-returns-in_ok-of_kind-in-Arrow-2-clause-kind t c = lift-kind (arrow_con c.get-in-Arrow.result.now.span c.get-in-Arrow.result.now.form c.get-in-Arrow-2.result.now.span c.get-in-Arrow-2.result.now.form) (arrow-eq c.in-Arrow.a c.in-Arrow.b c.get-in-Arrow.result.now c.get-in-Arrow-2.result.now c.in-Arrow.is c.get-in-Arrow.ensures c.get-in-Arrow-2.ensures)
    (arrow_type c.in_ok-of_kind-in-Arrow.ensures.kind c.in_ok-of_kind-in-Arrow-2.ensures.kind)

pub kind_in-returns-in_err-of_kind-in-Concat-clause-refused : goal.kind_in-returns-in_err-of_kind-in-Concat-clause-refused
kind_in-returns-in_err-of_kind-in-Concat-clause-refused t c = refused-exit c.from_residual-in_err-of_kind-in-Concat.result c.in_err-of_kind-in-Concat.field-0.0 c.from_residual-in_err-of_kind-in-Concat.ensures.1
    (lift-misfit (concat_con c.get-in-Concat.result.now.span c.get-in-Concat.result.now.form c.in-Concat.b.span c.in-Concat.b.form) (concat-eq c.in-Concat.a c.in-Concat.b c.get-in-Concat.result.now c.in-Concat.b c.in-Concat.is c.get-in-Concat.ensures refl) left)
    c.in_err-of_kind-in-Concat.ensures.refused

pub kind_in-returns-in_err-of_kind-in-Concat-2-clause-refused : goal.kind_in-returns-in_err-of_kind-in-Concat-2-clause-refused
kind_in-returns-in_err-of_kind-in-Concat-2-clause-refused t c = refused-exit c.from_residual-in_err-of_kind-in-Concat-2.result c.in_err-of_kind-in-Concat-2.field-0.0 c.from_residual-in_err-of_kind-in-Concat-2.ensures.1
    (lift-misfit (concat_con c.get-in-Concat.result.now.span c.get-in-Concat.result.now.form c.get-in-Concat-2.result.now.span c.get-in-Concat-2.result.now.form) (concat-eq c.in-Concat.a c.in-Concat.b c.get-in-Concat.result.now c.get-in-Concat-2.result.now c.in-Concat.is c.get-in-Concat.ensures c.get-in-Concat-2.ensures) right)
    c.in_err-of_kind-in-Concat-2.ensures.refused

pub kind_in-returns-in_ok-of_kind-in-Concat-2-clause-kind : goal.kind_in-returns-in_ok-of_kind-in-Concat-2-clause-kind
kind_in-returns-in_ok-of_kind-in-Concat-2-clause-kind t c = lift-kind (concat_con c.get-in-Concat.result.now.span c.get-in-Concat.result.now.form c.get-in-Concat-2.result.now.span c.get-in-Concat-2.result.now.form) (concat-eq c.in-Concat.a c.in-Concat.b c.get-in-Concat.result.now c.get-in-Concat-2.result.now c.in-Concat.is c.get-in-Concat.ensures c.get-in-Concat-2.ensures)
    (concat c.in_ok-of_kind-in-Concat.ensures.kind c.in_ok-of_kind-in-Concat-2.ensures.kind)

pub kind_in-returns-in_err-head-in-App-clause-refused : goal.kind_in-returns-in_err-head-in-App-clause-refused
kind_in-returns-in_err-head-in-App-clause-refused t c = refused-exit c.from_residual-in_err-head-in-App.result c.in_err-head-in-App.field-0.0 c.from_residual-in_err-head-in-App.ensures.1
    (app-head-fault c.in-App.f c.in-App.a c.get-in-App.result.now c.in-App.is c.get-in-App.ensures)
    c.in_err-head-in-App.ensures.refused

pub kind_in-returns-in_ok-head-in-App-clause-kind : goal.kind_in-returns-in_ok-head-in-App-clause-kind
kind_in-returns-in_ok-head-in-App-clause-kind t c = ok-along c.applied.result (app-kind c.get-in-App.result.now c.get-in-App-2.result.now (apply-eq c.in-App.f c.in-App.a c.get-in-App.result.now c.get-in-App-2.result.now c.in-App.is c.get-in-App.ensures c.get-in-App-2.ensures) c.in_ok-head-in-App.head c.in_ok-head-in-App.ensures.kind) c.applied.ensures.kind

pub kind_in-returns-in_ok-head-in-App-clause-refused : goal.kind_in-returns-in_ok-head-in-App-clause-refused
kind_in-returns-in_ok-head-in-App-clause-refused t c = refused-along c.applied.result (app-fault c.get-in-App.result.now c.get-in-App-2.result.now (apply-eq c.in-App.f c.in-App.a c.get-in-App.result.now c.get-in-App-2.result.now c.in-App.is c.get-in-App.ensures c.get-in-App-2.ensures) c.in_ok-head-in-App.head c.in_ok-head-in-App.ensures.kind) c.applied.ensures.refused

pub kind_in-returns-in_err-of_kind-in-RecordOf-clause-refused : goal.kind_in-returns-in_err-of_kind-in-RecordOf-clause-refused
kind_in-returns-in_err-of_kind-in-RecordOf-clause-refused t c = refused-exit c.from_residual-in_err-of_kind-in-RecordOf.result c.in_err-of_kind-in-RecordOf.field-0.0 c.from_residual-in_err-of_kind-in-RecordOf.ensures.1
    (lift-misfit (dollar_con c.get-in-RecordOf.result.now.span c.get-in-RecordOf.result.now.form) (dollar-eq c.in-RecordOf.r c.get-in-RecordOf.result.now c.in-RecordOf.is c.get-in-RecordOf.ensures) dollar)
    c.in_err-of_kind-in-RecordOf.ensures.refused

pub kind_in-returns-in_ok-of_kind-in-RecordOf-clause-kind : goal.kind_in-returns-in_ok-of_kind-in-RecordOf-clause-kind
kind_in-returns-in_ok-of_kind-in-RecordOf-clause-kind t c = lift-kind (dollar_con c.get-in-RecordOf.result.now.span c.get-in-RecordOf.result.now.form) (dollar-eq c.in-RecordOf.r c.get-in-RecordOf.result.now c.in-RecordOf.is c.get-in-RecordOf.ensures)
    (rule-dollar c.in_ok-of_kind-in-RecordOf.ensures.kind)

pub kind_in-returns-in-Lambda-clause-kind : goal.kind_in-returns-in-Lambda-clause-kind
kind_in-returns-in-Lambda-clause-kind t c = subst (λ z. IfOk c.function.result (HasKind (scope_of c.args.names.now) z)) (sym (fn-eq c.in-Lambda.x c.in-Lambda.kind c.in-Lambda.body c.get.result.now c.in-Lambda.is c.get.ensures)) c.function.ensures.kind

pub kind_in-returns-in-Lambda-clause-refused : goal.kind_in-returns-in-Lambda-clause-refused
kind_in-returns-in-Lambda-clause-refused t c = subst (λ z. IfRefused c.function.result (HasFault (scope_of c.args.names.now) z)) (sym (fn-eq c.in-Lambda.x c.in-Lambda.kind c.in-Lambda.body c.get.result.now c.in-Lambda.is c.get.ensures)) c.function.ensures.refused

pub kind_in-returns-in-Name-clause-kind : goal.kind_in-returns-in-Name-clause-kind
kind_in-returns-in-Name-clause-kind t c = lift-kind (con.Name c.in-Name.field-0) c.in-Name.is name

pub map_head-returns-clause-kind : goal.map_head-returns-clause-kind
map_head-returns-clause-kind t c = name-same c.of_kind.result (map-made c.args.f.now.form c.in-App.field-0 c.in-App.g c.get.result.now c.in_ok-wanted-in-App.wanted c.in-App.is c.get.ensures c.requires.map c.in_ok-wanted-in-App.ensures) c.of_kind.ensures.kind

pub map_head-returns-clause-refused : goal.map_head-returns-clause-refused
map_head-returns-clause-refused t c = refused-along c.of_kind.result (map-fault c.args.f.now.form c.in-App.field-0 c.in-App.g c.get.result.now c.in_ok-wanted-in-App.wanted c.in-App.is c.get.ensures c.requires.map c.in_ok-wanted-in-App.ensures) c.of_kind.ensures.refused

pub of_kind-returns-in_err-found-clause-refused : goal.of_kind-returns-in_err-found-clause-refused
of_kind-returns-in_err-found-clause-refused t c = refused-exit c.from_residual.result c.in_err-found.field-0.0 c.from_residual.ensures.1
    (as-misfit)
    c.in_err-found.ensures.refused

pub of_kind-returns-clause-refused : goal.of_kind-returns-clause-refused
of_kind-returns-clause-refused t c = refused-along c.same.result (as-other c.in_ok-found.ensures.kind) c.same.ensures.refused

pub record_field-returns-in_err-label-clause-refused : goal.record_field-returns-in_err-label-clause-refused
record_field-returns-in_err-label-clause-refused t c = refused-exit c.from_residual.result c.in_err-label.field-0.0 c.from_residual.ensures.1
    (record-name-fault c.args.field.now)
    c.in_err-label.ensures.refused

pub record_field-returns-clause-refused : goal.record_field-returns-clause-refused
record_field-returns-clause-refused t c = refused-along c.of_kind.result (record-type-fault c.args.field.now) c.of_kind.ensures.refused

pub row-returns-in_err-field-clause-refused : goal.row-returns-in_err-field-clause-refused
row-returns-in_err-field-clause-refused t c = refused-exit c.from_residual.result c.in_err-field.field-0.0 c.from_residual.ensures.1
    (row-fault c.args.fields.now c.as_slice-fields.result.now c.loop-i.i c.index-fields-i.result c.as_slice-fields.ensures c.loop-i-test.true c.index-fields-i.is)
    c.in_err-field.ensures.refused

pub row-returns-clause-kind : goal.row-returns-clause-kind
row-returns-clause-kind t c = row-kinded (scope_of c.args.names.now) c.args.fields.now c.as_slice-fields.result.now c.loop-i.i c.as_slice-fields.ensures c.loop-i-test.false c.loop-i.auto.i-end c.loop-i.invariant

pub row-loop-i-preserved : goal.row-loop-i-preserved
row-loop-i-preserved t c = row-goes-on (scope_of c.args.names.now) c.as_slice-fields.result.now c.loop-i.i c.index-fields-i.result c.loop-i-test.true c.index-fields-i.is c.in_ok-field.ensures.kind c.loop-i.invariant

pub record-returns-in_err-record_field-clause-refused : goal.record-returns-in_err-record_field-clause-refused
record-returns-in_err-record_field-clause-refused t c = refused-exit c.from_residual.result c.in_err-record_field.field-0.0 c.from_residual.ensures.1
    (record-fault c.args.fields.now c.as_slice-fields.result.now c.loop-i.i c.index-fields-i.result c.as_slice-fields.ensures c.loop-i-test.true c.index-fields-i.is)
    c.in_err-record_field.ensures.refused

pub record-returns-clause-kind : goal.record-returns-clause-kind
record-returns-clause-kind t c = record-kinded (scope_of c.args.names.now) c.args.fields.now c.as_slice-fields.result.now c.loop-i.i c.as_slice-fields.ensures c.loop-i-test.false c.loop-i.auto.i-end c.loop-i.invariant

pub record-loop-i-preserved : goal.record-loop-i-preserved
record-loop-i-preserved t c = record-goes-on (scope_of c.args.names.now) c.as_slice-fields.result.now c.loop-i.i c.index-fields-i.result c.loop-i-test.true c.index-fields-i.is c.in_ok-record_field.ensures.kind c.loop-i.invariant

pub given-returns-in_ok-copy_kind-in-Arrow-clause-kind : goal.given-returns-in_ok-copy_kind-in-Arrow-clause-kind
given-returns-in_ok-copy_kind-in-Arrow-clause-kind t c = given-kind c.args.kind.now c.in-Arrow.from c.in-Arrow.to c.get.result.now c.in_ok-copy_kind-in-Arrow.field-0 c.get-in-Arrow.result.now c.args.a.now
    c.in-Arrow.is c.get.ensures c.get-in-Arrow.ensures c.in_ok-copy_kind-in-Arrow.ensures c.in_ok-of_kind-in-Arrow.ensures.kind

pub no_function-returns-in_err-argument-clause-refused : goal.no_function-returns-in_err-argument-clause-refused
no_function-returns-in_err-argument-clause-refused t c = refused-exit c.from_residual.result c.in_err-argument.field-0.0 c.from_residual.ensures.1
    (argument-fault c.args.a.now) c.in_err-argument.ensures.refused

pub no_function-returns-clause-refused : goal.no_function-returns-clause-refused
no_function-returns-clause-refused t c = no-function c.args.kind.now c.in_ok-argument.argument c.in_ok-wanted.wanted c.args.a.now c.in_ok-bad_kind.field-0
    c.requires.plain c.in_ok-argument.ensures.kind c.in_ok-wanted.ensures c.in_ok-bad_kind.ensures
