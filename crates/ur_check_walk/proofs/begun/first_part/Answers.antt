use Rattle.std.specs.Option.{option_copied}
use Rattle.std.proofs.Common.{ap, ap₂, sym, refl, ◌∙◌}
use Rattle.ur_syntax.specs.declared.exp.ExpForm.TheVariants as e
use Rattle.ur_check_scopes.specs.Views.{mode_of}
use Rattle.ur_check_walk.proofs.Leading.{binary-leads, negated-leads, projected-leads, cut-leads}
use Rattle.ur_check_walk.proofs.begun.first_part.Goals as goal

pub returns-in_ok-wanted-in-Binary : goal.returns-in_ok-wanted-in-Binary
returns-in_ok-wanted-in-Binary c =
    binary-leads (record { op = c.in-Binary.op; left = c.get-e.result.now.span; right = c.get.result }) c.get-e.result c.args.e.now.form (mode_of (option_copied c.args.wanted)) (record { e = c.get-e.result; wanted = c.in_ok-wanted-in-Binary.wanted })
    (c.in-Binary.is ∙ ap₂ (λ x y. e.Binary c.in-Binary.op x y) (sym c.get-e.ensures) (sym c.get.ensures)) refl c.in_ok-wanted-in-Binary.ensures

pub returns-in-Negative : goal.returns-in-Negative
returns-in-Negative c = negated-leads c.get-e-in-Negative.result c.args.e.now.form (mode_of (option_copied c.args.wanted)) (c.in-Negative.is ∙ ap e.Negative (sym c.get-e-in-Negative.ensures))

pub returns-in-Project : goal.returns-in-Project
returns-in-Project c = projected-leads c.get-e-in-Project.result _ c.args.e.now.form (mode_of (option_copied c.args.wanted)) (c.in-Project.is ∙ ap (λ x. e.Project x c.in-Project.name) (sym c.get-e-in-Project.ensures))

pub returns-in-Remove : goal.returns-in-Remove
returns-in-Remove c = cut-leads c.get-e-in-Remove.result _ c.args.e.now.form (mode_of (option_copied c.args.wanted)) (c.in-Remove.is ∙ ap (λ x. e.Remove x c.in-Remove.removed) (sym c.get-e-in-Remove.ensures))
