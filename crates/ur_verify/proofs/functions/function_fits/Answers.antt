-- A function's body has its result's type.
use Rattle.std.proofs.Common.{inl, inr, sym, subst}
use Rattle.ur_terms.specs.Types.{HasType}
use Rattle.ur_code.specs.Fits.{signature}
use Rattle.ur_verify.proofs.Loops.{not_so}
use Rattle.ur_verify_operations.proofs.Replies.{refused_exit}
use Rattle.ur_verify.proofs.Once.{one_type}
use Rattle.ur_verify_operations.proofs.Told.{told_exit}
use Rattle.ur_verify.specs.Misfits.{TermMisfit, FunctionMisfit}
use Rattle.ur_verify.proofs.functions.function_fits.Goals as goal

pub returns-in_err-found-clause-fits : goal.returns-in_err-found-clause-fits
returns-in_err-found-clause-fits c =
    refused_exit c.from_residual.result c.in_err-found.field-0.0 c.from_residual.ensures.1
    (λ k. (c.args.function.now.result, subst (λ ts. HasType (signature c.args.code.now) ts c.args.function.now.body c.args.function.now.result) (sym c.as_slice.ensures) k.1)) c.in_err-found.ensures.fits

pub returns-clause-fits : goal.returns-clause-fits
returns-clause-fits c = λ k.
    not_so _ c.same_type.ensures c.if-same_type.false
    (one_type (signature c.args.code.now) c.as_slice.result.now c.args.function.now.body c.in_ok-found.found c.args.function.now.result c.in_ok-found.ensures.fits
    (subst (λ ts. HasType (signature c.args.code.now) ts c.args.function.now.body c.args.function.now.result) (sym c.as_slice.ensures) k.1))

pub returns-in_err-found-clause-told : goal.returns-in_err-found-clause-told
returns-in_err-found-clause-told c =
    told_exit {M = FunctionMisfit (signature c.args.code.now) c.args.function.now} {N = TermMisfit (signature c.args.code.now) c.as_slice.result.now c.args.function.now.body} c.from_residual.result c.in_err-found.field-0.0 c.from_residual.ensures.1
    (λ said k. inl (subst (λ ts. TermMisfit (signature c.args.code.now) ts c.args.function.now.body said) c.as_slice.ensures k)) c.in_err-found.ensures.told

pub returns-clause-told : goal.returns-clause-told
returns-clause-told c =
    inr (c.in_ok-found.found, subst (λ ts. HasType (signature c.args.code.now) ts c.args.function.now.body c.in_ok-found.found) c.as_slice.ensures c.in_ok-found.ensures.fits, not_so _ c.same_type.ensures c.if-same_type.false, c.in_ok-mismatch.ensures)
