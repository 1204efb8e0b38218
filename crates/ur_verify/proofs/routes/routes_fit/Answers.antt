-- Each route fits its function.
use Rattle.std.proofs.Common.{length, refl, sym, ap, ◌∙◌}
use Rattle.ur_code.specs.Fits.{FitsRoute}
use Rattle.ur_verify_operations.proofs.Replies.{refused_exit}
use Rattle.ur_verify.proofs.Pairs.{pair_step, pair_given, pair_of}
use Rattle.ur_verify_operations.proofs.Told.{told_exit}
use Rattle.ur_verify.specs.Misfits.{RouteMisfit, RoutesMisfit, at_targets, at_route}
use Rattle.ur_verify.proofs.Told.{placed, there}
use Rattle.ur_verify.proofs.routes.routes_fit.Goals as goal

pub returns-then-routes-targets-clause-fits : goal.returns-then-routes-targets-clause-fits
returns-then-routes-targets-clause-fits c = λ k. c.if-routes-targets.true (pair_of (FitsRoute c.args.code.now) c.as_slice-routes.result.now c.args.code.now.handlers.routes c.as_slice-targets.result.now c.args.code.now.targets c.as_slice-routes.ensures c.as_slice-targets.ensures k.1)

pub returns-in_err-target_fits-clause-fits : goal.returns-in_err-target_fits-clause-fits
returns-in_err-target_fits-clause-fits c =
    refused_exit c.from_residual-in_err-target_fits.result c.in_err-target_fits.field-0.0 c.from_residual-in_err-target_fits.ensures.1
    (pair_given (FitsRoute c.args.code.now) c.as_slice-routes.result.now c.args.code.now.handlers.routes c.as_slice-targets.result.now c.args.code.now.targets c.loop-i.i c.index-routes-i.result _ _ c.as_slice-routes.ensures c.as_slice-targets.ensures c.loop-i-test.true c.index-routes-i.is refl) c.in_err-target_fits.ensures.fits

pub loop-i-preserved : goal.loop-i-preserved
loop-i-preserved c =
    pair_step (FitsRoute c.args.code.now) c.as_slice-routes.result.now c.as_slice-targets.result.now c.loop-i.i c.index-routes-i.result _ _ c.loop-i-test.true c.if-routes-targets.false c.index-routes-i.is refl
    c.in_ok-target_fits.ensures.fits c.loop-i.invariant

pub returns-then-routes-targets-clause-told : goal.returns-then-routes-targets-clause-told
returns-then-routes-targets-clause-told c =
    at_targets (λ e. c.if-routes-targets.true (ap length c.as_slice-routes.ensures ∙ e ∙ sym (ap length c.as_slice-targets.ensures))) c.in_ok-no_type.ensures

pub returns-in_err-target_fits-clause-told : goal.returns-in_err-target_fits-clause-told
returns-in_err-target_fits-clause-told c =
    told_exit {M = RoutesMisfit c.args.code.now} {N = RouteMisfit c.args.code.now c.index-routes-i.result _} c.from_residual-in_err-target_fits.result c.in_err-target_fits.field-0.0 c.from_residual-in_err-target_fits.ensures.1
    (λ said k. at_route c.loop-i.i c.index-routes-i.result _ (placed c.as_slice-routes.result.now c.args.code.now.handlers.routes c.loop-i.i c.index-routes-i.result c.as_slice-routes.ensures c.loop-i-test.true c.index-routes-i.is) (there c.as_slice-routes.result.now c.as_slice-targets.result.now c.args.code.now.targets c.loop-i.i _ c.as_slice-targets.ensures c.if-routes-targets.false c.loop-i-test.true) k) c.in_err-target_fits.ensures.told
