use Rattle.std.proofs.Common.{[], ◌∷◌, refl, sym, ◌∙◌}
use Rattle.ur_terms.specs.declared.term.Op.TheVariants as op
use Rattle.ur_source.specs.Reading.{label_number}
use Rattle.ur_source.specs.Items.{exps}
use Rattle.ur_unfold_pieces.specs.Told.{exps_told}
use Rattle.ur_unfold_table.proofs.Telling.{exps_say}
use Rattle.ur_unfold_table.proofs.Forming.{with_formed, opened_none, opened_some, exit}
use Rattle.ur_unfold_table.proofs.computed.value_project.Goals as goal

pub returns-in_err-name_in : goal.returns-in_err-name_in
returns-in_err-name_in c = λ around at whole. exit c.args.table.now c.args.table.now _ c.from_residual.result c.in_err-name_in.field-0.0 c.from_residual.ensures.1 (c.in_err-name_in.ensures around at)

pub returns-in-None : goal.returns-in-None
returns-in-None c = λ around at whole.
    with_formed c.args.table.now c.args.table.now refl (label_number c.args.table.now.typed.now.names around.cons c.args.label.now) op.Project (exps_told c.args.scope (c.args.a.now ∷ [])) (exps around (c.args.a.now ∷ [])) c.nothing.result
    (opened_none (label_number c.args.table.now.typed.now.names around.cons c.args.label.now) _ c.nothing.result (sym (c.in_ok-name_in.ensures around at) ∙ c.in-None.is) c.nothing.ensures) (exps_say c.args.table.now c.args.scope around at (c.args.a.now ∷ []))

pub returns-in-Some : goal.returns-in-Some
returns-in-Some c = λ around at whole.
    with_formed c.args.table.now c.args.table.now refl (label_number c.args.table.now.typed.now.names around.cons c.args.label.now) op.Project (exps_told c.args.scope (c.args.a.now ∷ [])) (exps around (c.args.a.now ∷ [])) c.boxed_one.result
    (opened_some (label_number c.args.table.now.typed.now.names around.cons c.args.label.now) _ c.boxed_one.result c.in-Some.name (sym (c.in_ok-name_in.ensures around at) ∙ c.in-Some.is) c.boxed_one.ensures) (exps_say c.args.table.now c.args.scope around at (c.args.a.now ∷ []))
