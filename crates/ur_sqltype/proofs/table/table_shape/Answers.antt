use Rattle.std.proofs.Common.{◌≡◌, ◌∙◌, sym, ap, subst, Some}
use Rattle.ur_sqltype.specs.SqltableFaults.{in_row, RowBreaks}
use Rattle.ur_sqltype.proofs.Exits.{refused-along}
use Rattle.ur_sqltype.proofs.table.table_shape.Goals as goal

pub returns-in-Some-clause-refused : goal.returns-in-Some-clause-refused
returns-in-Some-clause-refused c =
    refused-along c.row_shape.result (λ r b. in_row c.in-Some.row.now c.in-Some.ensures (subst (λ z. RowBreaks c.args.datatypes.now z c.args.keys.now r) c.as_slice.ensures b)) c.row_shape.ensures.refused
