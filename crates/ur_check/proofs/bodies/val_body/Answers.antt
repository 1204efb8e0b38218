use Rattle.ur_check.proofs.Bodying.{val-so}
use Rattle.ur_check.proofs.bodies.val_body.Goals as goal

pub returns-clause-ok : goal.returns-clause-ok
returns-clause-ok c = λ home z s.
    val-so z c.args.e.now.form c.args.of.now c.args.bodies.now c.with_val.new.bodies c.right_side.new.sites c.in_ok-out.out (c.in_ok-out.ensures.typed home z s) c.in_ok-out.ensures.fixed c.in_ok-with_val.ensures.functions c.in_ok-with_val.ensures.vals c.in_ok-with_val.ensures.sites
