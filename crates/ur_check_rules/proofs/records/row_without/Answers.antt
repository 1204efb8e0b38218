use Rattle.std.proofs.Common.{ap, sym, ◌∙◌}
use Rattle.std.specs.Option.{option_copied}
use Rattle.ur_check_rules.proofs.Recorded.{row-cut, no-field-told, no-record-told}
use Rattle.ur_check_rules.proofs.records.row_without.Goals as goal

pub returns-in_ok-whole-in-Some-field_type-clause-row : goal.returns-in_ok-whole-in-Some-field_type-clause-row
returns-in_ok-whole-in-Some-field_type-clause-row c =
    row-cut c.args.label.now c.args.of.now c.in-Some-field_type.field-0.now c.in-Some.row.now c.in_ok-whole-in-Some-field_type.whole c.without.result (sym c.row_of.ensures ∙ ap option_copied c.in-Some.is) c.in-Some-field_type.ensures c.in_ok-whole-in-Some-field_type.ensures c.without.ensures

pub returns-in-None-field_type-clause-refused : goal.returns-in-None-field_type-clause-refused
returns-in-None-field_type-clause-refused c =
    no-field-told c.args.around.now.world.now.datatype_names c.args.label.now c.args.of.now c.in-Some.row.now c.no_field.result (sym c.row_of.ensures ∙ ap option_copied c.in-Some.is) c.in-None-field_type.ensures c.no_field.ensures

pub returns-in-None-clause-refused : goal.returns-in-None-clause-refused
returns-in-None-clause-refused c =
    no-record-told c.args.around.now.world.now.datatype_names c.args.label.now c.args.of.now c.no_record.result (sym c.row_of.ensures ∙ ap option_copied c.in-None.is) c.no_record.ensures
