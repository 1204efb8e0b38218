use Rattle.ur_unfold_table.proofs.Tabled.{opens_to, form_lasts}
use Rattle.ur_unfold_table.proofs.table.SourceTable.form.Goals as goal

pub returns-clause-form : goal.returns-clause-form
returns-clause-form c = λ i h. opens_to c.args.self.now.of c.piece_form-opened.new.table i c.piece_form-opened.result (c.piece_form-opened.ensures.moves.whole h.0) (c.piece_form-opened.ensures.form i h.1 h.0)

pub returns-clause-lasts : goal.returns-clause-lasts
returns-clause-lasts c = form_lasts c.args.self.now _ c.piece_form-opened.ensures.moves c.each_once.ensures.cons c.each_once.ensures.statics
