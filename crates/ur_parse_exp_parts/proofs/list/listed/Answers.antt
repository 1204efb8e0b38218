use Rattle.std.proofs.Common.{sym, ◌∙◌, ap}
use Rattle.ur_parse_exp_parts.specs.Lists.{listed}
use Rattle.ur_parse_exp_parts.proofs.Joined.{listed-push}
use Rattle.ur_parse_exp_parts.proofs.list.listed.Goals as goal

pub pieces-preserved : goal.pieces-preserved
pieces-preserved c = let e = c.in_ok-right.ensures.found in let e0 = e.0 in let e1 = e.1 in let p = c.in-Some.ensures in
    rw (e0, e1) (record {
      tree = sym (listed-push c.pop.new.self c.in-Some.piece c.args.covered c.pieces.right.tree) ∙ ap (λ z. listed z c.args.covered c.pieces.right.tree) (sym p) ∙ c.pieces.invariant.tree;
      end = c.pieces.invariant.end;
    })
