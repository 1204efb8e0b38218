use Rattle.std.proofs.Common.{ap, sym, ◌∙◌}
use Rattle.std.specs.Option.{option_copied}
use Rattle.ur_check_forms.specs.Runs.{value_in}
use Rattle.ur_check_forms.proofs.Running.{value-found, fields-told, no-record-told}
use Rattle.ur_check_forms.proofs.runs.cookie_value.Goals as goal

pub returns-then-not-is_record-clause-refused : goal.returns-then-not-is_record-clause-refused
returns-then-not-is_record-clause-refused c = no-record-told c.args.e.now.form c.not_so.result (sym c.is_record.ensures ∙ c.if-not-is_record.true) c.not_so.ensures

pub returns-in-Some-clause-value : goal.returns-in-Some-clause-value
returns-in-Some-clause-value c = value-found c.args.e.now.form c.in-Record.fields c.in-Some.value.now c.in-Record.is (ap value_in (sym c.as_slice.ensures) ∙ sym c.value_in.ensures ∙ ap option_copied c.in-Some.is)

pub returns-in-None-clause-refused : goal.returns-in-None-clause-refused
returns-in-None-clause-refused c = fields-told c.args.e.now.form c.in-Record.fields c.not_so-in-None.result c.in-Record.is (ap value_in (sym c.as_slice.ensures) ∙ sym c.value_in.ensures ∙ ap option_copied c.in-None.is) c.not_so-in-None.ensures
