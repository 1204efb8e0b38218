-- Each function fits.
use Rattle.ur_terms.specs.Types.{FitsFunction}
use Rattle.ur_code.specs.Fits.{signature}
use Rattle.ur_verify.proofs.Loops.{all_step}
use Rattle.ur_verify_operations.proofs.Replies.{refused_exit}
use Rattle.ur_verify.proofs.Pairs.{all_given, all_of}
use Rattle.ur_verify_operations.proofs.Told.{told_exit}
use Rattle.ur_verify.specs.Misfits.{FunctionMisfit, FunctionsMisfit}
use Rattle.ur_verify.proofs.Told.{among}
use Rattle.ur_verify.proofs.functions.functions_fit.Goals as goal

pub loop-function-preserved : goal.loop-function-preserved
loop-function-preserved c =
    all_step (FitsFunction (signature c.args.code.now)) _ c.loop-function.function-index c.function-item.result c.loop-function-test.true c.function-item.is c.in_ok-function_fits.ensures.fits
    c.loop-function.invariant

pub returns-in_err-function_fits-clause-fits : goal.returns-in_err-function_fits-clause-fits
returns-in_err-function_fits-clause-fits c =
    refused_exit c.from_residual.result c.in_err-function_fits.field-0.0 c.from_residual.ensures.1
    (all_given (FitsFunction (signature c.args.code.now)) c.as_slice-function-items.result.now c.args.code.now.functions c.loop-function.function-index c.function-item.result
    c.as_slice-function-items.ensures c.loop-function-test.true c.function-item.is)
    c.in_err-function_fits.ensures.fits

pub returns-clause-fits : goal.returns-clause-fits
returns-clause-fits c =
    all_of (FitsFunction (signature c.args.code.now)) c.as_slice-function-items.result.now c.args.code.now.functions c.loop-function.function-index c.as_slice-function-items.ensures c.loop-function-test.false
    c.loop-function.invariant

pub returns-in_err-function_fits-clause-told : goal.returns-in_err-function_fits-clause-told
returns-in_err-function_fits-clause-told c =
    told_exit {M = FunctionsMisfit c.args.code.now} {N = FunctionMisfit (signature c.args.code.now) c.function-item.result} c.from_residual.result c.in_err-function_fits.field-0.0 c.from_residual.ensures.1
    (λ said k. (c.function-item.result, among c.as_slice-function-items.result.now c.args.code.now.functions c.loop-function.function-index c.function-item.result c.as_slice-function-items.ensures c.loop-function-test.true c.function-item.is, k)) c.in_err-function_fits.ensures.told
