-- Two records as one.
use Rattle.std.proofs.Common.{rules, [], ◌∷◌, true, false, ap₂, ◌∙◌}
use Rattle.ur_code.specs.Fits.{signature}
use Rattle.ur_values.specs.declared.types.ValueType.{ValueType}
use Rattle.ur_verify_operations.specs.Fields.{are_apart}
use Rattle.ur_verify_operations.proofs.Replies.{test_at}
use Rattle.ur_verify_operations.proofs.Table.{join_not, join_made}
use Rattle.ur_verify_operations.specs.Misfits.{join_first, join_second, join_shared}
use Rattle.ur_verify_operations.proofs.fields.join.Goals as goal

pub returns-then-not-are_apart-clause-fits : goal.returns-then-not-are_apart-clause-fits
returns-then-not-are_apart-clause-fits c =
    λ h. join_not (signature c.args.code.now) c.args.ts.now c.in-Some-as_record.fields.now c.in-Some-as_record-2.others.now h.0
    (c.in-Some.ensures ∙ ap₂ (λ (x y : ValueType). x ∷ y ∷ []) c.in-Some-as_record.ensures c.in-Some-as_record-2.ensures)
    (test_at are_apart c.are_apart.result false c.as_slice.result.now c.as_slice-2.result.now c.in-Some-as_record.fields.now c.in-Some-as_record-2.others.now c.are_apart.ensures c.as_slice.ensures
    c.as_slice-2.ensures c.if-not-are_apart.true) h.1

pub returns-clause-fits : goal.returns-clause-fits
returns-clause-fits c =
    join_made (signature c.args.code.now) c.args.ts.now c.in-Some-as_record.fields.now c.in-Some-as_record-2.others.now c.as_slice-3.result.now c.as_slice-4.result.now c.in_ok-joined.field-0
    (c.in-Some.ensures ∙ ap₂ (λ (x y : ValueType). x ∷ y ∷ []) c.in-Some-as_record.ensures c.in-Some-as_record-2.ensures)
    (test_at are_apart c.are_apart.result true c.as_slice.result.now c.as_slice-2.result.now c.in-Some-as_record.fields.now c.in-Some-as_record-2.others.now c.are_apart.ensures c.as_slice.ensures
    c.as_slice-2.ensures c.if-not-are_apart.false)
    c.in_ok-joined.ensures c.as_slice-3.ensures c.as_slice-4.ensures

pub returns-in_default-as_record-clause-told : goal.returns-in_default-as_record-clause-told
returns-in_default-as_record-clause-told c = join_first c.in-Some.a.now c.in-Some.b.now c.in-Some.ensures c.in_default-as_record.ensures c.in_ok-unlike.ensures

pub returns-in_default-as_record-2-clause-told : goal.returns-in_default-as_record-2-clause-told
returns-in_default-as_record-2-clause-told c = join_second c.in-Some.a.now c.in-Some.b.now c.in-Some.ensures c.in_default-as_record-2.ensures c.in_ok-unlike-2.ensures

pub returns-then-not-are_apart-clause-told : goal.returns-then-not-are_apart-clause-told
returns-then-not-are_apart-clause-told c =
    join_shared c.in-Some-as_record.fields.now c.in-Some-as_record-2.others.now
    (c.in-Some.ensures ∙ ap₂ (λ (x y : ValueType). x ∷ y ∷ []) c.in-Some-as_record.ensures c.in-Some-as_record-2.ensures)
    (test_at are_apart c.are_apart.result false c.as_slice.result.now c.as_slice-2.result.now c.in-Some-as_record.fields.now c.in-Some-as_record-2.others.now c.are_apart.ensures c.as_slice.ensures
    c.as_slice-2.ensures c.if-not-are_apart.true) (search rules)
