-- The kind of a column.
use Rattle.std.proofs.Common.{sym, ap, ◌∙◌}
use Rattle.std.specs.Option.{option_copied}
use Rattle.ur_verify_operations.proofs.RowTypes.{no_item, item_at}
use Rattle.ur_verify_operations.proofs.rows.column_kind.Goals as goal

pub returns-in-None : goal.returns-in-None
returns-in-None c = sym (no_item c.args.query.now.from c.args.item c.args.column (sym c.get.ensures.value ∙ ap option_copied c.in-None.is))

pub returns-in-Some : goal.returns-in-Some
returns-in-Some c =
    item_at c.args.query.now.from c.args.item c.args.column c.in-Some.from.now c.as_slice.result.now c.kind_at.result (sym c.get.ensures.value ∙ ap option_copied c.in-Some.is) c.as_slice.ensures
    c.kind_at.ensures
