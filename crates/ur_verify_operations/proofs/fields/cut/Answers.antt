-- A record without a field.
use Rattle.std.proofs.Common.{rules, ap, ◌∙◌}
use Rattle.std.specs.Option.{option_copied}
use Rattle.ur_code.specs.Fits.{signature}
use Rattle.ur_verify_operations.proofs.Table.{at_of, no_some, some_there, cut_not, cut_made}
use Rattle.ur_verify_operations.specs.Misfits.{no_field}
use Rattle.ur_verify_operations.proofs.fields.cut.Goals as goal

pub returns-then-is_none-clause-fits : goal.returns-then-is_none-clause-fits
returns-then-is_none-clause-fits c =
    λ h. cut_not (signature c.args.code.now) c.args.name c.args.ts.now c.in-Some.fields.now h.0 c.in-Some.ensures
    (at_of c.args.name c.as_slice.result.now c.in-Some.fields.now (option_copied c.type_at.result) c.type_at.ensures c.as_slice.ensures
    ∙ ap option_copied (no_some c.type_at.result c.is_none.result c.is_none.ensures c.if-is_none.true)) h.1

pub returns-clause-fits : goal.returns-clause-fits
returns-clause-fits c =
    let there = some_there c.type_at.result c.is_none.result c.is_none.ensures c.if-is_none.false in
    cut_made (signature c.args.code.now) c.args.name c.args.ts.now c.in-Some.fields.now c.as_slice-2.result.now c.in_ok-without_type.field-0 there.0.now c.in-Some.ensures
    (at_of c.args.name c.as_slice.result.now c.in-Some.fields.now (option_copied c.type_at.result) c.type_at.ensures c.as_slice.ensures ∙ ap option_copied there.1)
    c.in_ok-without_type.ensures c.as_slice-2.ensures

pub returns-then-is_none-clause-told : goal.returns-then-is_none-clause-told
returns-then-is_none-clause-told c =
    no_field c.in-Some.fields.now c.in-Some.ensures
    (at_of c.args.name c.as_slice.result.now c.in-Some.fields.now (option_copied c.type_at.result) c.type_at.ensures c.as_slice.ensures
    ∙ ap option_copied (no_some c.type_at.result c.is_none.result c.is_none.ensures c.if-is_none.true)) (search rules)
