-- Each item has the columns of its table.
use Rattle.std.proofs.Common.{◌≡◌, ◌∙◌, Some, refl, ap}
use Rattle.std.specs.Prelude.{map, slice_get, List}
use Rattle.ur_values.specs.declared.schema.Schema.{Schema}
use Rattle.ur_values.specs.declared.schema.ColumnKind.{ColumnKind}
use Rattle.ur_values.specs.Store.{kinds_of}
use Rattle.ur_sql.specs.declared.query.Item.{Item}
use Rattle.ur_verify.proofs.Loops.{all_step, all_end}
use Rattle.ur_verify.proofs.queries.are_tables.Goals as goal

abbrev IsOfTable : Schema → Item → Type 0
IsOfTable schema item = slice_get (map kinds_of schema.tables) item.table ≡ Some item.columns

table_columns : (schema : Schema) (item : Item) (columns : List ColumnKind) → columns ≡ item.columns → slice_get (map kinds_of schema.tables) item.table ≡ Some columns → IsOfTable schema item
table_columns schema item columns e h = h ∙ ap (λ x. Some x) e

pub loop-item-preserved : goal.loop-item-preserved
loop-item-preserved c =
    all_step (IsOfTable c.args.schema.now) c.args.from.now c.loop-item.item-index c.item-item.result c.loop-item-test.true c.item-item.is
    (table_columns c.args.schema.now c.item-item.result c.as_slice.result.now c.as_slice.ensures (c.is_table.ensures.0 c.if-not-is_table.false)) c.loop-item.invariant

pub returns : goal.returns
returns c = ((λ e. all_end (IsOfTable c.args.schema.now) c.args.from.now c.loop-item.item-index c.loop-item-test.false c.loop-item.invariant), (λ a. refl))
