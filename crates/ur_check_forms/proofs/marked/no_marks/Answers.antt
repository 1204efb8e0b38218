use Rattle.ur_check_forms.proofs.Marking.{nothing-first}
use Rattle.ur_check_forms.proofs.marked.no_marks.Goals as goal

pub returns-clause-front : goal.returns-clause-front
returns-clause-front c = nothing-first (record { row = c.new-row.result; waiting = c.new-waiting.result; marks = c.new-marks.result }) c.new-row.ensures c.new-waiting.ensures c.new-marks.ensures
