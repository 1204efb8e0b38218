use Rattle.std.proofs.Common.{ap, sym, ◌∙◌}
use Rattle.std.specs.Option.{option_copied}
use Rattle.ur_check_rules.proofs.Recorded.{field-found, no-field-told, no-record-told}
use Rattle.ur_check_rules.proofs.records.type_in.Goals as goal

pub returns-in_ok-found-in-Some-field_type-clause-field : goal.returns-in_ok-found-in-Some-field_type-clause-field
returns-in_ok-found-in-Some-field_type-clause-field c =
    field-found c.args.label.now c.args.of.now c.in_ok-found-in-Some-field_type.found c.in-Some-field_type.t.now c.in-Some.row.now (sym c.row_of.ensures ∙ ap option_copied c.in-Some.is) c.in-Some-field_type.ensures c.in_ok-found-in-Some-field_type.ensures

pub returns-in-None-field_type-clause-refused : goal.returns-in-None-field_type-clause-refused
returns-in-None-field_type-clause-refused c =
    no-field-told c.args.around.now.world.now.datatype_names c.args.label.now c.args.of.now c.in-Some.row.now c.no_field.result (sym c.row_of.ensures ∙ ap option_copied c.in-Some.is) c.in-None-field_type.ensures c.no_field.ensures

pub returns-in-None-clause-refused : goal.returns-in-None-clause-refused
returns-in-None-clause-refused c =
    no-record-told c.args.around.now.world.now.datatype_names c.args.label.now c.args.of.now c.no_record.result (sym c.row_of.ensures ∙ ap option_copied c.in-None.is) c.no_record.ensures
