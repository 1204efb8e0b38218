use Rattle.std.proofs.Common.{[], refl, subst}
use Rattle.ur_terms.specs.declared.term.Op.TheVariants as op
use Rattle.ur_tree.specs.declared.exp.Exp.TheVariants as x
use Rattle.ur_meaning.specs.Form.{strict_form}
use Rattle.ur_source.specs.Reading.{closed_type}
use Rattle.ur_source.specs.Source.{source_of}
use Rattle.ur_meaning.specs.declared.head.Head.TheVariants as head
use Rattle.ur_unfold_table.specs.Opened.{IsOpened}
use Rattle.ur_unfold_table.proofs.Forms.{form-Empty}
use Rattle.ur_unfold_table.proofs.Forming.{strict_formed, exit}
use Rattle.ur_unfold_table.proofs.Formed.{opens_exp}
use Rattle.ur_unfold_table.proofs.typed.empty_form.Goals as goal

pub returns-in_err-of : goal.returns-in_err-of
returns-in_err-of c = λ scope at whole. exit c.args.table.now c.args.table.now _ c.from_residual.result c.in_err-of.field-0.0 c.from_residual.ensures.1 (c.in_err-of.ensures scope at)

pub returns : goal.returns
returns c =
    opens_exp c.args.table.now c.args.table.now c.args.scope (x.Empty c.args.t.now) (x.Empty c.args.t.now) c.leaf.result (λ scope. strict_form (op.Empty (closed_type c.args.table.now.typed.now.names scope.cons c.args.t.now)) []) refl (λ scope. form-Empty (source_of c.args.table.now.typed.now) scope c.args.t.now)
    (λ scope at whole. strict_formed c.args.table.now c.args.table.now refl (op.Empty (closed_type c.args.table.now.typed.now.names scope.cons c.args.t.now)) [] [] c.leaf.result (subst (λ t. IsOpened (head.Strict (op.Empty t)) [] c.leaf.result) (c.in_ok-of.ensures scope at) c.leaf.ensures) tt)
