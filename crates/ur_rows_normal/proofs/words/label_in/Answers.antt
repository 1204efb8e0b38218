use Rattle.std.proofs.Common.{sym, ◌∙◌}
use Rattle.ur_rows_reduce.proofs.Holding.{held-form}
use Rattle.ur_rows_normal.proofs.NormalStanding.{function-label}
use Rattle.ur_rows_normal.proofs.words.label_in.Goals as goal

pub returns-in-Fn : goal.returns-in-Fn
returns-in-Fn c = λ n h. function-label c.args.by n _ _ c.new-in-Fn.result (sym (held-form c.args.held.now c.in-Form.form n c.in-Form.is h).0 ∙ c.in-Fn.is) c.new-in-Fn.ensures
