use Rattle.std.proofs.Common.{[], refl, sym, ap, subst}
use Rattle.ur_terms.specs.declared.term.AnswerForm.TheVariants as how
use Rattle.ur_terms.specs.declared.term.Op.TheVariants as op
use Rattle.ur_meaning.specs.Form.{bool_form}
use Rattle.ur_source.specs.Items.{exps}
use Rattle.ur_source.specs.Source.{source_of}
use Rattle.ur_meaning.specs.declared.head.Head.TheVariants as head
use Rattle.ur_meaning.specs.Heads as heads
use Rattle.ur_unfold_pieces.specs.Told.{told, exps_told}
use Rattle.ur_unfold_pieces.specs.Forming.{FormedAs}
use Rattle.ur_unfold_pieces.proofs.Staying.{stays_so, moves_of}
use Rattle.ur_unfold_table.proofs.Forms.{form-Bool}
use Rattle.ur_unfold_table.proofs.Telling.{exps_say}
use Rattle.ur_unfold_table.proofs.Forming.{opened_formed, strict_formed}
use Rattle.ur_unfold_table.proofs.Tabled.{exp_piece, part_piece, bool_piece, closed_piece, folding_piece, asking_piece}
use Rattle.ur_unfold_table.proofs.table.piece_form.Goals as goal

pub returns-in-Exp-clause-form : goal.returns-in-Exp-clause-form
returns-in-Exp-clause-form c = exp_piece c.args.table.now c.exp_form.new.table c.args.piece.now c.exp_form.result _ _ (ap told c.in-Exp.is) c.exp_form.ensures.form

pub returns-in-Part-clause-form : goal.returns-in-Part-clause-form
returns-in-Part-clause-form c = part_piece c.args.table.now c.args.table.now c.args.piece.now c.part_form.result _ _ (ap told c.in-Part.is) c.part_form.ensures

pub returns-in-Part-clause-moves : goal.returns-in-Part-clause-moves
returns-in-Part-clause-moves c = moves_of c.args.table.now c.args.table.now (stays_so c.args.table.now)

pub returns-in-Bool-clause-form : goal.returns-in-Bool-clause-form
returns-in-Bool-clause-form c = bool_piece c.args.table.now c.args.table.now c.args.piece.now c.leaf.result _ _ (ap told c.in-Bool.is)
    (λ scope whole. subst (λ f. FormedAs c.args.table.now c.args.table.now f c.leaf.result) (sym (form-Bool (source_of c.args.table.now.typed.now) scope c.in-Bool.b)) (opened_formed c.args.table.now c.args.table.now refl (head.Bool c.in-Bool.b) [] [] (bool_form c.in-Bool.b) c.leaf.result c.leaf.ensures tt (heads.bool c.in-Bool.b) refl))

pub returns-in-Bool-clause-moves : goal.returns-in-Bool-clause-moves
returns-in-Bool-clause-moves c = moves_of c.args.table.now c.args.table.now (stays_so c.args.table.now)

pub returns-in-Closed-clause-form : goal.returns-in-Closed-clause-form
returns-in-Closed-clause-form c = closed_piece c.args.table.now c.closed_form.new.table c.args.piece.now c.closed_form.result _ (ap told c.in-Closed.is) c.closed_form.ensures.form

pub returns-in-Folding-clause-form : goal.returns-in-Folding-clause-form
returns-in-Folding-clause-form c = folding_piece c.args.table.now c.folding_form.new.table c.args.piece.now c.folding_form.result _ _ _ _ _ (ap told c.in-Folding.is) c.folding_form.ensures.form

pub returns-in-Folding-clause-moves : goal.returns-in-Folding-clause-moves
returns-in-Folding-clause-moves c = moves_of c.args.table.now c.folding_form.new.table c.folding_form.ensures.stays

pub returns-in-Asking-clause-form : goal.returns-in-Asking-clause-form
returns-in-Asking-clause-form c = asking_piece c.args.table.now c.args.table.now c.args.piece.now c.all.result _ _ _ (ap told c.in-Asking.is)
    (λ scope at whole. strict_formed c.args.table.now c.args.table.now refl (op.Ask how.All c.in-Asking.q) (exps_told c.in-Asking.scope c.in-Asking.args.now) (exps scope c.in-Asking.args.now) c.all.result c.all.ensures (exps_say c.args.table.now c.in-Asking.scope scope at c.in-Asking.args.now))

pub returns-in-Asking-clause-moves : goal.returns-in-Asking-clause-moves
returns-in-Asking-clause-moves c = moves_of c.args.table.now c.args.table.now (stays_so c.args.table.now)
