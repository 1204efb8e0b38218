-- The fields of parts, from the last one on.
use Rattle.ur_verify_operations.specs.Misfits.{UnlikePart, UnlikeFlow}
use Rattle.ur_verify_operations.proofs.Flows.{flow_step, flow_stop}
use Rattle.ur_verify_operations.proofs.Replies.{refused_exit}
use Rattle.ur_verify_operations.proofs.Told.{told_exit, more_behind, flow_told}
use Rattle.ur_verify_operations.proofs.markup.flow.Goals as goal

pub loop-part-preserved : goal.loop-part-preserved
loop-part-preserved c = (
  flow_step c.args.ts.now c.loop-part.left.now c.loop-part.fields c.loop-part.invariant.0 c.in-Some.rest.now c.in-Some.part.now c.in_ok-fields.fields c.in-Some.ensures.cases.0 c.in_ok-fields.ensures.fits,
  more_behind c.args.ts.now c.loop-part.left.now c.in-Some.rest.now c.in-Some.part.now c.loop-part.fields c.in_ok-fields.fields c.in-Some.ensures.cases.0 c.in_ok-fields.ensures.fits c.loop-part.invariant.1,
)

pub returns-in_err-fields-clause-fits : goal.returns-in_err-fields-clause-fits
returns-in_err-fields-clause-fits c =
    refused_exit c.from_residual.result c.in_err-fields.field-0.0 c.from_residual.ensures.1
    (flow_stop c.args.ts.now c.loop-part.left.now c.loop-part.fields c.loop-part.invariant.0 c.in-Some.rest.now c.in-Some.part.now c.in-Some.ensures.cases.0) c.in_err-fields.ensures.fits

pub returns-in_err-fields-clause-told : goal.returns-in_err-fields-clause-told
returns-in_err-fields-clause-told c =
    told_exit {M = UnlikeFlow c.args.code.now.names c.args.ts.now} {N = UnlikePart c.args.code.now.names c.in-Some.part.now c.loop-part.fields} c.from_residual.result c.in_err-fields.field-0.0 c.from_residual.ensures.1
    (λ said. flow_told c.args.code.now.names c.args.ts.now c.loop-part.left.now c.in-Some.rest.now c.in-Some.part.now c.loop-part.fields said c.in-Some.ensures.cases.0 c.loop-part.invariant.1) c.in_err-fields.ensures.told
