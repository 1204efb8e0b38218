use Rattle.std.proofs.Common.{ap, ◌∙◌}
use Rattle.ur_syntax.specs.declared.exp.ExpForm.TheVariants as form
use Rattle.ur_rows.specs.Types.{option_of}
use Rattle.ur_typed.specs.Causes.{Breaks}
use Rattle.ur_check_scopes.proofs.Exits.{refused-exit, refuses}
use Rattle.ur_check_forms.specs.Runs.{IsUnknown}
use Rattle.ur_check_forms.proofs.Running.{get-made, breaks-get}
use Rattle.ur_check_forms.proofs.runs.get_cookie_out.Goals as goal

pub returns-in_err-cookie-clause-refused : goal.returns-in_err-cookie-clause-refused
returns-in_err-cookie-clause-refused c =
    let names = c.args.around.now.world.now.datatype_names in
    let x = c.args.name.now in
    refused-exit c.from_residual.result c.in_err-cookie.field-0.0 c.from_residual.ensures.1
    (λ r h w s st m stands. refuses names (IsUnknown w w.globals.cookies x) (Breaks names w s st (form.GetCookie x) m) (breaks-get names w s st m x) r (h w s stands)) c.in_err-cookie.ensures.refused

pub returns-clause-cookie : goal.returns-clause-cookie
returns-clause-cookie c =
    get-made c.args.around.now c.args.name.now c.in_ok-cookie.cookie.number c.in_ok-cookie.cookie.kind c.in_ok-option.option c.in_ok-of.of c.in_ok-made.made c.in_ok-cookie.ensures.cookie
    (c.in_ok-option.ensures ∙ ap option_of c.in_ok-inner.ensures) c.in_ok-of.ensures c.in_ok-made.ensures
