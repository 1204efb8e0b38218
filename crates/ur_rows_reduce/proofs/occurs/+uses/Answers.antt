use Rattle.std.proofs.Common.{ap, ap₂, sym, ◌∙◌}
use Rattle.ur_rows.proofs.PutMade.{ok-is}
use Rattle.ur_rows_reduce.specs.Occurs.{uses}
use Rattle.ur_rows_reduce.proofs.Uses.{uses-fn}
use Rattle.ur_rows_reduce.proofs.occurs.+uses.Goals as goal

pub returns-in_ok-deeper-in-Fn : goal.returns-in_ok-deeper-in-Fn
returns-in_ok-deeper-in-Fn _ c = ok-is c.uses.result _ _ (ap₂ uses c.in_ok-deeper-in-Fn.ensures c.get.ensures ∙ sym (ap (uses c.args.depth) c.in-Fn.is ∙ uses-fn c.args.depth c.in-Fn.field-0 c.in-Fn.c)) c.uses.ensures
