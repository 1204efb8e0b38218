-- A form that is not the one that parts make up.
use Rattle.ur_verify_operations.proofs.Covering.{not_so}
use Rattle.ur_verify_operations.proofs.Flows.{not_made}
use Rattle.ur_verify_operations.specs.Misfits.{UnlikeFlow, UnlikeParts, no_form, other_form}
use Rattle.ur_verify_operations.proofs.Told.{told_exit}
use Rattle.ur_verify_operations.proofs.markup.makes_form.Goals as goal

pub returns-clause-fits : goal.returns-clause-fits
returns-clause-fits c =
    λ h. not_made c.args.ts.now c.in_ok-made.made c.args.of.now c.args.fields.now c.requires c.in_ok-made.ensures.fits (not_so _ c.same_type.ensures c.if-same_type.false) h.1

pub returns-in_err-made-clause-told : goal.returns-in_err-made-clause-told
returns-in_err-made-clause-told c =
    told_exit {M = UnlikeParts c.args.code.now.names c.args.of.now c.args.ts.now} {N = UnlikeFlow c.args.code.now.names c.args.ts.now} c.from_residual.result c.in_err-made.field-0.0 c.from_residual.ensures.1
    (λ said k. no_form c.args.fields.now c.requires k) c.in_err-made.ensures.told

pub returns-clause-told : goal.returns-clause-told
returns-clause-told c =
    other_form c.in_ok-made.made c.args.fields.now c.in_ok-made.ensures.fits.0 c.requires c.in_ok-made.ensures.fits.1 c.in_ok-made.ensures.fits.2 (not_so _ c.same_type.ensures c.if-same_type.false)
    c.in_ok-mismatch.ensures
