use Rattle.std.proofs.Common.{sym, ◌∙◌, ap}
use Rattle.ur_parse_con.specs.Joins.{chained}
use Rattle.ur_parse_con.proofs.Joining.{chained-push}
use Rattle.ur_parse_con.proofs.joins.chained.Goals as goal

pub pieces-preserved : goal.pieces-preserved
pieces-preserved c = let e = c.in_ok-right.ensures.found in let p = c.in-Some.ensures in
    rw e (sym (chained-push c.args.join c.pop.new.self c.in-Some.piece c.args.covered c.pieces.right) ∙ ap (λ z. chained c.args.join z c.args.covered c.pieces.right) (sym p) ∙ c.pieces.invariant)
