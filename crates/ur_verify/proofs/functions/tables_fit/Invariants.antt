-- The names of the tables so far are text.
use Rattle.std.proofs.Common.{take, All}
use Rattle.std.specs.Prelude.{IsUtf8}
use Rattle.ur_values.specs.declared.schema.TableShape.{TableShape}
use Rattle.ur_verify.proofs.functions.tables_fit.Given as goal

abbrev pub invariant-loop-table : goal.invariant-loop-table
invariant-loop-table l = All (λ (shape : TableShape). IsUtf8 shape.name) (take l.table-index l.table-items)
