-- The form that parts make up.
use Rattle.ur_verify_operations.proofs.Flows.{form_made, form_flow}
use Rattle.ur_verify_operations.proofs.Replies.{refused_exit}
use Rattle.ur_verify_operations.proofs.markup.form_of.Goals as goal

pub returns-clause-fits : goal.returns-clause-fits
returns-clause-fits c = form_made c.args.ts.now c.in_ok-flow.field-0 c.in_ok-flow.ensures.fits

pub returns-in_err-flow-clause-fits : goal.returns-in_err-flow-clause-fits
returns-in_err-flow-clause-fits c = refused_exit c.from_residual.result c.in_err-flow.field-0.0 c.from_residual.ensures.1 (form_flow c.args.ts.now) c.in_err-flow.ensures.fits
