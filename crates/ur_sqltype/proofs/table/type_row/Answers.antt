use Rattle.std.proofs.Common.{◌∙◌, ap, Some}
use Rattle.ur_rows.specs.declared.normal.Normal.TheVariants as normal
use Rattle.ur_rows.proofs.Shapes.{record-made}
use Rattle.ur_rows.proofs.Order.{parts-row}
use Rattle.ur_sqltype.specs.Table.{record_row}
use Rattle.ur_sqltype.proofs.table.type_row.Goals as goal

pub returns-in-Record : goal.returns-in-Record
returns-in-Record c = ap (λ t. record_row (normal.Type t)) (c.in-Record.is ∙ record-made c.in-Record.row) ∙ ap Some (parts-row c.in-Record.row)
