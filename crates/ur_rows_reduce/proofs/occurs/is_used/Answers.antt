use Rattle.std.proofs.Common.{ap, sym, ◌∙◌}
use Rattle.ur_rows.proofs.PutMade.{ok-is}
use Rattle.ur_rows_reduce.specs.Occurs.{uses, is_used}
use Rattle.ur_rows_reduce.proofs.Uses.{is-used-fn}
use Rattle.ur_rows_reduce.proofs.occurs.is_used.Goals as goal

pub returns-in-Fn : goal.returns-in-Fn
returns-in-Fn c = ok-is c.uses.result _ _ (ap (uses 0) c.get.ensures ∙ sym (ap is_used c.in-Fn.is ∙ is-used-fn c.in-Fn.field-0 c.in-Fn.c)) c.uses.ensures
