use Rattle.std.proofs.Common.{◌∙◌, sym, ap}
use Rattle.ur_rows.specs.Made.{record_of}
use Rattle.ur_tree.specs.QueryRow.{kind_if_any}
use Rattle.ur_sqltype.proofs.Exits.{ok-along}
use Rattle.ur_sqltype.proofs.row.kind_if_any.Goals as goal

pub returns-in-None : goal.returns-in-None
returns-in-None c = c.record_type.ensures ∙ ap (λ r. record_of r) c.new.ensures ∙ ap (λ k. kind_if_any k) (sym c.in-None.is)

pub returns-in-Some : goal.returns-in-Some
returns-in-Some c = ok-along c.kind_type.result (λ t e. e ∙ ap (λ k. kind_if_any k) (sym c.in-Some.is)) c.kind_type.ensures
