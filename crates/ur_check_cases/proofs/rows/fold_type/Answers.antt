use Rattle.std.proofs.Common.{refl}
use Rattle.ur_rows.specs.declared.normal.Normal.TheVariants as normal
use Rattle.ur_check_scopes.proofs.Exits.{ok-along, refused-along}
use Rattle.ur_check_cases.proofs.Folding.{body-made, body-large}
use Rattle.ur_check_cases.proofs.rows.fold_type.Goals as goal

pub returns-in-Fn-clause-form : goal.returns-in-Fn-clause-form
returns-in-Fn-clause-form c =
    ok-along c.in_body.result (λ t h. body-made c.args.function.now c.in-Fn.field-0 c.in-Fn.body c.get.result.now (normal.Row c.args.row) c.args.row t c.in-Fn.is c.get.ensures refl h) c.in_body.ensures.form

pub returns-in-Fn-clause-refused : goal.returns-in-Fn-clause-refused
returns-in-Fn-clause-refused c =
    refused-along c.in_body.result (λ r h. body-large c.args.function.now c.in-Fn.field-0 c.in-Fn.body c.get.result.now (normal.Row c.args.row) c.args.row r c.in-Fn.is c.get.ensures refl h) c.in_body.ensures.refused
