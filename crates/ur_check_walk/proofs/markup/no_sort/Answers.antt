use Rattle.std.proofs.Common.{◌∙◌, ap, sym, subst}
use Rattle.std.specs.Prelude.{codes}
use Rattle.std.specs.Option.{option_copied}
use Rattle.ur_typed_rules.specs.Faults.{mismatch}
use Rattle.ur_tree.specs.Text.{type_text}
use Rattle.ur_check_scopes.specs.Views.{StopIs}
use Rattle.ur_check_walk.proofs.Parting.{is-same}
use Rattle.ur_check_walk.proofs.markup.no_sort.Goals as goal

pub returns-in-Some : goal.returns-in-Some
returns-in-Some c = λ t e.
    let names = c.args.around.now.world.now.datatype_names in
    subst (λ z. StopIs names (mismatch (codes "xml") (type_text names z)) c.no_xml.result) (is-same c.in-Some.of.now t (sym (ap option_copied c.in-Some.is) ∙ e)) c.no_xml.ensures
