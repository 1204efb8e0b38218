use Rattle.std.proofs.Common.{sym, ap, ◌∙◌}
use Rattle.ur_syntax.specs.declared.con.Con.{Con}
use Rattle.ur_kinds.specs.Walk.{scope_of}
use Rattle.ur_kinds.specs.Words.{is_xml_form, is_empty_row}
use Rattle.ur_kinds.proofs.Walking.{form-then, form-else}
use Rattle.ur_kinds.proofs.words.is_form.Goals as goal

pub returns-then-is_xml_form : goal.returns-then-is_xml_form
returns-then-is_xml_form c = form-then (scope_of c.args.names.now) c.args.con.now.form c.in-App.h c.in-App.e c.is_empty_row.result c.in-App.is
    (ap (λ (z : Con). is_xml_form (scope_of c.args.names.now) z.form) (sym c.get.ensures) ∙ (sym c.is_xml_form.ensures ∙ c.if-is_xml_form.true))
    (c.is_empty_row.ensures ∙ ap (λ (z : Con). is_empty_row z.form) c.get-then-is_xml_form.ensures)

pub returns-else-is_xml_form : goal.returns-else-is_xml_form
returns-else-is_xml_form c = c.if-is_xml_form.false ∙ form-else (scope_of c.args.names.now) c.args.con.now.form c.in-App.h c.in-App.e c.in-App.is
    (ap (λ (z : Con). is_xml_form (scope_of c.args.names.now) z.form) (sym c.get.ensures) ∙ (sym c.is_xml_form.ensures ∙ c.if-is_xml_form.false))
