use Rattle.std.proofs.Common.{sym, ap, ◌∙◌, codes}
use Rattle.ur_syntax.specs.declared.con.Con.{Con}
use Rattle.ur_kinds.specs.Walk.{scope_of}
use Rattle.ur_kinds.specs.Words.{is_word}
use Rattle.ur_kinds.proofs.Walking.{xml-then, xml-else}
use Rattle.ur_kinds.proofs.words.is_xml_form.Goals as goal

pub returns-then-is_word : goal.returns-then-is_word
returns-then-is_word c = xml-then (scope_of c.args.names.now) c.args.con.now.form c.in-App.h c.in-App.f c.is_word-then-is_word.result c.in-App.is
    (ap (λ (z : Con). is_word (codes "xml") (scope_of c.args.names.now) z.form) (sym c.get.ensures) ∙ (sym c.is_word.ensures ∙ c.if-is_word.true))
    (c.is_word-then-is_word.ensures ∙ ap (λ (z : Con). is_word (codes "form") (scope_of c.args.names.now) z.form) c.get-then-is_word.ensures)

pub returns-else-is_word : goal.returns-else-is_word
returns-else-is_word c = c.if-is_word.false ∙ xml-else (scope_of c.args.names.now) c.args.con.now.form c.in-App.h c.in-App.f c.in-App.is
    (ap (λ (z : Con). is_word (codes "xml") (scope_of c.args.names.now) z.form) (sym c.get.ensures) ∙ (sym c.is_word.ensures ∙ c.if-is_word.false))
