use Rattle.std.proofs.Common.{refl}
use Rattle.std.specs.Option.{option_copied}
use Rattle.ur_check_scopes.specs.Views.{mode_of}
use Rattle.ur_check_scopes.proofs.Exits.{refused-exit}
use Rattle.ur_check_rules.specs.Views.{out_with}
use Rattle.ur_check_rules.proofs.Settling.{settled-made}
use Rattle.ur_check_rules.proofs.out.settled.Goals as goal

pub returns-in_err-fits-clause-refused : goal.returns-in_err-fits-clause-refused
returns-in_err-fits-clause-refused c =
    refused-exit c.from_residual.result c.in_err-fits.field-0.0 c.from_residual.ensures.1
    (λ r h w s st stands. h w (out_with c.args.out st) refl) c.in_err-fits.ensures.refused

pub returns-in_err-is_accepted-clause-refused : goal.returns-in_err-is_accepted-clause-refused
returns-in_err-is_accepted-clause-refused c =
    refused-exit c.from_residual-in_err-is_accepted.result c.in_err-is_accepted.field-0.0 c.from_residual-in_err-is_accepted.ensures.1
    (λ r h w s st stands. h w s (mode_of (option_copied c.args.wanted)) st stands) c.in_err-is_accepted.ensures.refused

pub returns-clause-settled : goal.returns-clause-settled
returns-clause-settled c = settled-made c.args.around.now c.args.out (mode_of (option_copied c.args.wanted)) c.in_ok-fits.ensures.ok c.in_ok-is_accepted.ensures.ok
