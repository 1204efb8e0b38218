use Rattle.ur_check_forms.proofs.Marking.{parts-behind}
use Rattle.ur_check_forms.proofs.marked.and_marks.Goals as goal

pub returns : goal.returns
returns c = parts-behind c.args.front c.args.more (record { row = c.in_ok-row.row; waiting = c.in_ok-waiting.waiting; marks = c.in_ok-marks.marks }) c.in_ok-row.ensures c.in_ok-waiting.ensures c.in_ok-marks.ensures
