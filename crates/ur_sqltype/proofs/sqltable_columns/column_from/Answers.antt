use Rattle.std.proofs.Common.{◌≡◌, ◌∙◌, sym, ap, subst}
use Rattle.ur_rows.specs.Made.{field}
use Rattle.ur_rows.proofs.Shapes.{field-made}
use Rattle.ur_sqltype.specs.Table.{column_from}
use Rattle.ur_sqltype.specs.SqltableFaults.{IsNoColumn}
use Rattle.ur_sqltype.proofs.Exits.{ok-along, refused-along}
use Rattle.ur_sqltype.proofs.sqltable_columns.column_from.Goals as goal

pub returns-in-Field-clause-column : goal.returns-in-Field-clause-column
returns-in-Field-clause-column c =
    let is : c.args.part.now ≡ field c.in-Field.l c.get.result.now = c.in-Field.is ∙ field-made c.in-Field.l c.in-Field.t ∙ ap (λ t. field c.in-Field.l t) (sym c.get.ensures) in
    ok-along c.field_column.result (λ x h. ap column_from is ∙ h) c.field_column.ensures.column

pub returns-in-Field-clause-refused : goal.returns-in-Field-clause-refused
returns-in-Field-clause-refused c =
    let is : c.args.part.now ≡ field c.in-Field.l c.get.result.now = c.in-Field.is ∙ field-made c.in-Field.l c.in-Field.t ∙ ap (λ t. field c.in-Field.l t) (sym c.get.ensures) in
    refused-along c.field_column.result (λ r h. subst (λ p. IsNoColumn c.args.datatypes.now p r) (sym is) h) c.field_column.ensures.refused
