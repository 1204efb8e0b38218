use Rattle.ur_check_scopes.proofs.Exits.{refused-exit}
use Rattle.ur_check.proofs.Declaring.{val-head-fault, val-fault, val-declared}
use Rattle.ur_check.proofs.modules.declare_val.Goals as goal

pub returns-clause-ok : goal.returns-clause-ok
returns-clause-ok c =
    val-declared c.args.project.now c.val_in.new.project c.args.bodies.now c.val_body.new.bodies c.args.name.now c.args.con.now c.args.e.now c.in_ok-of.of c.in_ok-of.ensures.of c.in_ok-val_body.ensures.ok c.in_ok-val_in.ensures

pub returns-in_err-of-clause-refused : goal.returns-in_err-of-clause-refused
returns-in_err-of-clause-refused c =
    refused-exit c.from_residual.result c.in_err-of.field-0.0 c.from_residual.ensures.1 (λ r h. val-head-fault c.args.project.now c.args.bodies.now c.args.name.now c.args.con.now c.args.e.now r h) c.in_err-of.ensures.refused

pub returns-in_err-val_body-clause-refused : goal.returns-in_err-val_body-clause-refused
returns-in_err-val_body-clause-refused c =
    refused-exit c.from_residual-in_err-val_body.result c.in_err-val_body.field-0.0 c.from_residual-in_err-val_body.ensures.1
    (λ r h. val-fault c.args.project.now c.args.bodies.now c.args.name.now c.args.con.now c.args.e.now c.in_ok-of.of r c.in_ok-of.ensures.of h) c.in_err-val_body.ensures.refused
