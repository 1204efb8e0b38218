use Rattle.std.proofs.Common.{sym, ◌∙◌, subst}
use Rattle.std.specs.Prelude.{codes}
use Rattle.ur_typed_rules.specs.Arguments.{BreaksRow}
use Rattle.ur_typed.specs.Faults.{BreaksFoldRow}
use Rattle.ur_typed_rules.specs.Faults as faults
use Rattle.ur_tree.specs.Text as texts
use Rattle.ur_check_scopes.specs.Views.{StopIs}
use Rattle.ur_check_scopes.proofs.Exits.{refused-exit, refuses}
use Rattle.ur_check_cases.proofs.Folding.{no-row-there, not-plain-told}
use Rattle.ur_check_cases.proofs.rows.fold_row.Goals as goal

pub returns-in_err-row-clause-refused : goal.returns-in_err-row-clause-refused
returns-in_err-row-clause-refused c =
    let names = c.args.around.now.world.now.datatype_names in
    refused-exit c.from_residual.result c.in_err-row.field-0.0 c.from_residual.ensures.1
    (λ r h w s stands. refuses names (BreaksRow w s c.args.con.now) (BreaksFoldRow names w s c.args.con.now) (no-row-there names w s c.args.con.now) r (h w s stands)) c.in_err-row.ensures.refused

pub returns-clause-refused : goal.returns-clause-refused
returns-clause-refused c =
    let names = c.args.around.now.world.now.datatype_names in
    not-plain-told c.args.around.now c.args.con.now c.in_ok-row.row c.not_plain.result c.in_ok-row.ensures.row (sym c.row_of_values.ensures ∙ c.if-row_of_values.false)
    (subst (λ z. StopIs names (faults.not_so (texts.row_text names z) (codes "a row without arrows and transactions")) c.not_plain.result) c.as_slice.ensures
    (subst (λ n. StopIs n (faults.not_so (texts.row_text n c.as_slice.result.now) (codes "a row without arrows and transactions")) c.not_plain.result) c.as_slice-names.ensures c.not_plain.ensures))
