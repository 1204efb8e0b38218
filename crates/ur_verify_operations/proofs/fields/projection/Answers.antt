-- The type of a field.
use Rattle.std.proofs.Common.{Some, sym, ap, ◌∙◌}
use Rattle.std.specs.Option.{option_copied}
use Rattle.ur_code.specs.Fits.{signature}
use Rattle.ur_values.specs.declared.types.ValueType.{ValueType}
use Rattle.ur_verify_operations.proofs.Table.{at_of, project_fits, project_not}
use Rattle.ur_verify_operations.specs.Misfits.{no_field}
use Rattle.ur_verify_operations.proofs.fields.projection.Goals as goal

pub returns-in_ok-copy_type-in-Some-type_at-clause-fits : goal.returns-in_ok-copy_type-in-Some-type_at-clause-fits
returns-in_ok-copy_type-in-Some-type_at-clause-fits c =
    project_fits (signature c.args.code.now) c.args.name c.args.ts.now c.in-Some.fields.now c.in_ok-copy_type-in-Some-type_at.field-0 c.in-Some.ensures
    (at_of c.args.name c.as_slice.result.now c.in-Some.fields.now (option_copied c.type_at.result) c.type_at.ensures c.as_slice.ensures
    ∙ ap option_copied c.in-Some-type_at.is ∙ ap (λ (t : ValueType). Some t) (sym c.in_ok-copy_type-in-Some-type_at.ensures))

pub returns-in_ok-no_type-in-None-clause-fits : goal.returns-in_ok-no_type-in-None-clause-fits
returns-in_ok-no_type-in-None-clause-fits c =
    λ h. project_not (signature c.args.code.now) c.args.name c.args.ts.now c.in-Some.fields.now h.0 c.in-Some.ensures
    (at_of c.args.name c.as_slice.result.now c.in-Some.fields.now (option_copied c.type_at.result) c.type_at.ensures c.as_slice.ensures ∙ ap option_copied c.in-None.is) h.1

pub returns-in_ok-no_type-in-None-clause-told : goal.returns-in_ok-no_type-in-None-clause-told
returns-in_ok-no_type-in-None-clause-told c =
    no_field c.in-Some.fields.now c.in-Some.ensures
    (at_of c.args.name c.as_slice.result.now c.in-Some.fields.now (option_copied c.type_at.result) c.type_at.ensures c.as_slice.ensures ∙ ap option_copied c.in-None.is) c.in_ok-no_type-in-None.ensures
