use Rattle.std.proofs.Common.{sym, subst, ◌∙◌}
use Rattle.std.specs.Prelude.{codes}
use Rattle.ur_typed_rules.specs.Faults as faults
use Rattle.ur_check_scopes.specs.Views.{StopIs}
use Rattle.ur_check_forms.proofs.Stating.{no-xml-told}
use Rattle.ur_check_forms.proofs.statements.each_out.Goals as goal

pub returns-then-not-is_xml-clause-refused : goal.returns-then-not-is_xml-clause-refused
returns-then-not-is_xml-clause-refused c =
    no-xml-told c.args.around.now c.args.at c.args.antiquotes c.args.body c.not_of_type.result (sym c.is_xml.ensures ∙ c.if-not-is_xml.true)
    (subst (λ z. StopIs z (faults.not_of_type z c.args.body.of (codes "xml")) c.not_of_type.result) c.as_slice-names.ensures c.not_of_type.ensures)
