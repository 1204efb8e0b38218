use Rattle.std.proofs.Common.{refl, ap, ◌∙◌}
use Rattle.ur_rows.specs.Order.{joined}
use Rattle.ur_check_forms.proofs.Marking.{parts-end}
use Rattle.ur_check_forms.proofs.marked.all_marks.Goals as goal

pub returns : goal.returns
returns c = parts-end c.args.marked (record { row = c.in_ok-row.row; waiting = c.args.marked.waiting; marks = c.args.marked.marks }) (c.in_ok-row.ensures ∙ ap (joined c.args.marked.row) c.new-none.ensures) refl refl
