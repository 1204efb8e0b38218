use Rattle.ur_check.proofs.Bodying.{body-so}
use Rattle.ur_check.proofs.bodies.function_body.Goals as goal

pub returns-clause-ok : goal.returns-clause-ok
returns-clause-ok c = λ home z h s out is.
    body-so z c.args.function.now h c.args.bodies.now c.with_function.new.bodies c.body.new.sites c.in_ok-out.out (c.in_ok-out.ensures.typed home z h s out is) c.in_ok-with_function.ensures.functions c.in_ok-with_function.ensures.vals c.in_ok-with_function.ensures.sites
