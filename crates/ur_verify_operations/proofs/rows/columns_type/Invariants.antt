-- The columns so far are there, with these types.
use Rattle.std.proofs.Common.{◌≡◌, take, map, Some}
use Rattle.ur_sql.specs.Typing.{kinds_in}
use Rattle.ur_code.specs.RowType.{all_there, column_type}
use Rattle.ur_verify_operations.specs.Fields.{pair}
use Rattle.ur_verify_operations.proofs.rows.columns_type.Given as goal

abbrev pub invariant-loop-column : goal.invariant-loop-column
invariant-loop-column l = all_there (map (column_type (kinds_in l.query)) (take l.column-index l.columns)) ≡ Some (map pair l.fields)
