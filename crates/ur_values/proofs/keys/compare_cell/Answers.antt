use Rattle.std.proofs.Common.{ap, sym, ◌∙◌}
use Rattle.std.specs.Option.{option_copied}
use Rattle.ur_values.specs.Order.{value_cmp}
use Rattle.ur_values.proofs.Cells.{no-cell, a-cell}
use Rattle.ur_values.proofs.keys.compare_cell.Goals as goal

pub returns-in-None : goal.returns-in-None
returns-in-None c =
    c.compare_values.ensures ∙ ap (value_cmp c.args.a.now) (no-cell c.args.b.now c.args.column (sym c.get.ensures.value ∙ ap option_copied c.in-None.is))

pub returns-in-Some : goal.returns-in-Some
returns-in-Some c =
    c.compare_values-in-Some.ensures
    ∙ ap (value_cmp c.args.a.now) (a-cell c.args.b.now c.args.column c.in-Some.value.now (sym c.get.ensures.value ∙ ap option_copied c.in-Some.is))
