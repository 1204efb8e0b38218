use Rattle.std.proofs.Common.{refl, subst}
use Rattle.ur_terms.specs.declared.term.Op.TheVariants as op
use Rattle.ur_tree.specs.declared.exp.Exp.TheVariants as x
use Rattle.ur_meaning.specs.Form.{strict_form}
use Rattle.ur_source.specs.Reading.{closed_type}
use Rattle.ur_source.specs.Items.{markups}
use Rattle.ur_source.specs.Source.{source_of}
use Rattle.ur_meaning.specs.declared.head.Head.TheVariants as head
use Rattle.ur_unfold_pieces.specs.Told.{parts_told}
use Rattle.ur_unfold_table.specs.Opened.{IsOpened}
use Rattle.ur_unfold_table.proofs.Forms.{form-Xml}
use Rattle.ur_unfold_table.proofs.Telling.{parts_say}
use Rattle.ur_unfold_table.proofs.Forming.{strict_formed, exit}
use Rattle.ur_unfold_table.proofs.Formed.{opens_exp}
use Rattle.ur_unfold_table.proofs.typed.xml_form.Goals as goal

pub returns-in_err-of : goal.returns-in_err-of
returns-in_err-of c = λ scope at whole. exit c.args.table.now c.args.table.now _ c.from_residual.result c.in_err-of.field-0.0 c.from_residual.ensures.1 (c.in_err-of.ensures scope at)

pub returns : goal.returns
returns c =
    opens_exp c.args.table.now c.args.table.now c.args.scope (x.Xml c.args.t.now c.args.parts.now) (x.Xml c.args.t.now c.args.parts.now) c.kids.result (λ scope. strict_form (op.Markup (closed_type c.args.table.now.typed.now.names scope.cons c.args.t.now)) (markups scope c.args.parts.now)) refl (λ scope. form-Xml (source_of c.args.table.now.typed.now) scope c.args.t.now c.args.parts.now)
    (λ scope at whole. strict_formed c.args.table.now c.args.table.now refl (op.Markup (closed_type c.args.table.now.typed.now.names scope.cons c.args.t.now)) (parts_told c.args.scope c.args.parts.now) (markups scope c.args.parts.now) c.kids.result
    (subst (λ t. IsOpened (head.Strict (op.Markup t)) (parts_told c.args.scope c.args.parts.now) c.kids.result) (c.in_ok-of.ensures scope at) c.kids.ensures) (parts_say c.args.table.now c.args.scope scope at c.args.parts.now))
