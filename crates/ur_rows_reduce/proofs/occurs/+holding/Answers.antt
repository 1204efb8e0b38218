use Rattle.std.proofs.Common.{ap, sym, ◌∙◌}
use Rattle.ur_rows_reduce.specs.Occurs.{holds_type, holds_part}
use Rattle.ur_rows_reduce.proofs.Uses.{holds-field, holds-arrow, in-second}
use Rattle.ur_rows_reduce.proofs.occurs.+holding.Goals as goal

pub holds_part-returns-in-Field : goal.holds_part-returns-in-Field
holds_part-returns-in-Field _ c = c.holds_type.ensures ∙ ap (holds_type c.args.as_row c.args.depth) c.get.ensures ∙ sym (ap (holds_part c.args.as_row c.args.depth) c.in-Field.is ∙ holds-field c.args.as_row c.args.depth c.in-Field.field-0 c.in-Field.t)

pub holds_type-returns-else-holds_type : goal.holds_type-returns-else-holds_type
holds_type-returns-else-holds_type _ c = in-second _ _ c.holds_type-in-Arrow.result c.holds_type-else-holds_type.result _ (ap (holds_type c.args.as_row c.args.depth) c.in-Arrow.is ∙ holds-arrow c.args.as_row c.args.depth c.in-Arrow.a c.in-Arrow.b) (c.holds_type-in-Arrow.ensures ∙ ap (holds_type c.args.as_row c.args.depth) c.get-in-Arrow.ensures) c.if-holds_type.false (c.holds_type-else-holds_type.ensures ∙ ap (holds_type c.args.as_row c.args.depth) c.get-else-holds_type.ensures)
