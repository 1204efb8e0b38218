use Rattle.std.proofs.Common.{ap, sym, ◌∙◌}
use Rattle.std.specs.Prelude.{option_map}
use Rattle.ur_check_scopes.specs.Views.{head_in}
use Rattle.ur_check_forms.proofs.Aiming.{no-page-there, no-page-told}
use Rattle.ur_check_forms.proofs.targets.page_of.Goals as goal

pub returns-else-is_page-clause-refused : goal.returns-else-is_page-clause-refused
returns-else-is_page-clause-refused c =
    let a = c.args.around.now in
    no-page-told a c.args.number c.args.word.now c.no_page.result
    (no-page-there a c.args.number c.in-Some.head.now (sym c.function_at.ensures ∙ ap (option_map (λ z. head_in z.now)) c.in-Some.is) (sym c.is_page.ensures ∙ c.if-is_page.false)) c.no_page.ensures
