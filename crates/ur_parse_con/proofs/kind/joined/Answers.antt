use Rattle.std.proofs.Common.{sym, ◌∙◌, ap}
use Rattle.ur_parse_con.specs.Chains.{arrows}
use Rattle.ur_parse_con.proofs.Chains.{arrows-push}
use Rattle.ur_parse_con.proofs.kind.joined.Goals as goal

pub kinds-preserved : goal.kinds-preserved
kinds-preserved c = let e = c.in_ok-right.ensures.found in let p = c.in-Some.ensures in rw e (sym (arrows-push c.pop.new.self c.in-Some.kind c.kinds.right) ∙ ap (λ z. arrows z c.kinds.right) (sym p) ∙ c.kinds.invariant)
