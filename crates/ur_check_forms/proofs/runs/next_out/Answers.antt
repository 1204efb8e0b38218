use Rattle.std.proofs.Common.{sym, ◌∙◌}
use Rattle.ur_syntax.specs.declared.exp.ExpForm.TheVariants as form
use Rattle.ur_typed.specs.Causes.{Breaks}
use Rattle.ur_check_scopes.proofs.Exits.{refused-exit, refuses}
use Rattle.ur_check_forms.specs.Runs.{IsUnknown}
use Rattle.ur_check_forms.proofs.Running.{next-made, breaks-next}
use Rattle.ur_check_forms.proofs.runs.next_out.Goals as goal

pub returns-in_err-number-clause-refused : goal.returns-in_err-number-clause-refused
returns-in_err-number-clause-refused c =
    let names = c.args.around.now.world.now.datatype_names in
    let x = c.args.name.now in
    refused-exit c.from_residual.result c.in_err-number.field-0.0 c.from_residual.ensures.1
    (λ r h w s st m stands. refuses names (IsUnknown w w.globals.sequences x) (Breaks names w s st (form.Nextval x) m) (breaks-next names w s st m x) r (h w s stands)) c.in_err-number.ensures.refused

pub returns-clause-next : goal.returns-clause-next
returns-clause-next c =
    next-made c.args.around.now c.args.name.now c.in_ok-number.number c.in_ok-of.of c.in_ok-made.made c.in_ok-number.ensures.number (sym c.has_sequence.ensures ∙ c.if-not-has_sequence.false) c.in_ok-of.ensures c.in_ok-made.ensures
