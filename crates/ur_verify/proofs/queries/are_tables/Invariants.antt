-- The items so far have the columns of their tables.
use Rattle.std.proofs.Common.{take, All}
use Rattle.std.specs.Prelude.{◌≡◌, map, slice_get, Some}
use Rattle.ur_values.specs.Store.{kinds_of}
use Rattle.ur_verify.proofs.queries.are_tables.Given as goal

abbrev pub invariant-loop-item : goal.invariant-loop-item
invariant-loop-item l = All (λ item. slice_get (map kinds_of l.schema.tables) item.table ≡ Some item.columns) (take l.item-index l.from)
