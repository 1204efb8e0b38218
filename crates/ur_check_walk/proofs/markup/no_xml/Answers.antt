use Rattle.std.proofs.Common.{◌∙◌, ap, subst}
use Rattle.std.specs.Prelude.{codes}
use Rattle.ur_typed_rules.specs.Faults.{mismatch}
use Rattle.ur_tree.specs.Text.{type_text}
use Rattle.ur_check_scopes.specs.Views.{StopIs}
use Rattle.ur_check_walk.proofs.markup.no_xml.Goals as goal

pub returns-in-Ok : goal.returns-in-Ok
returns-in-Ok c =
    let names = c.args.around.now.world.now.datatype_names in
    subst (λ z. StopIs names (mismatch (codes "xml") z) c.mismatch.result) (c.as_slice-in-Ok.ensures ∙ c.in-Ok.ensures ∙ ap (λ z. type_text z c.args.of.now) c.as_slice.ensures) (c.mismatch.ensures names)
