use Rattle.std.proofs.Common.{[], ◌∷◌, refl, subst}
use Rattle.ur_terms.specs.declared.term.Op.TheVariants as op
use Rattle.ur_tree.specs.declared.exp.Exp.TheVariants as x
use Rattle.ur_meaning.specs.Form.{strict_form}
use Rattle.ur_source.specs.Reading.{result_type}
use Rattle.ur_source.specs.Items.{exps}
use Rattle.ur_source.specs.Source.{source_of}
use Rattle.ur_meaning.specs.declared.head.Head.TheVariants as head
use Rattle.ur_unfold_pieces.specs.Told.{exps_told}
use Rattle.ur_unfold_table.specs.Opened.{IsOpened}
use Rattle.ur_unfold_table.proofs.Forms.{form-Fail}
use Rattle.ur_unfold_table.proofs.Telling.{exps_say}
use Rattle.ur_unfold_table.proofs.Forming.{strict_formed, exit}
use Rattle.ur_unfold_table.proofs.Formed.{opens_exp}
use Rattle.ur_unfold_table.proofs.typed.fail_form.Goals as goal

pub returns-in_err-of : goal.returns-in_err-of
returns-in_err-of c = λ scope at whole. exit c.args.table.now c.args.table.now _ c.from_residual.result c.in_err-of.field-0.0 c.from_residual.ensures.1 (c.in_err-of.ensures scope at)

pub returns : goal.returns
returns c =
    opens_exp c.args.table.now c.args.table.now c.args.scope (x.Fail c.args.t.now c.args.e.now) (x.Fail c.args.t.now c.args.e.now) c.boxed_one.result (λ scope. strict_form (op.Fail (result_type c.args.table.now.typed.now.names scope.cons c.args.t.now).1) (exps scope (c.args.e.now ∷ []))) refl (λ scope. form-Fail (source_of c.args.table.now.typed.now) scope c.args.t.now c.args.e.now)
    (λ scope at whole. strict_formed c.args.table.now c.args.table.now refl (op.Fail (result_type c.args.table.now.typed.now.names scope.cons c.args.t.now).1) (exps_told c.args.scope (c.args.e.now ∷ [])) (exps scope (c.args.e.now ∷ [])) c.boxed_one.result
    (subst (λ t. IsOpened (head.Strict (op.Fail t)) (exps_told c.args.scope (c.args.e.now ∷ [])) c.boxed_one.result) (c.in_ok-of.ensures scope at) c.boxed_one.ensures) (exps_say c.args.table.now c.args.scope scope at (c.args.e.now ∷ [])))
