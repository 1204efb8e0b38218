use Rattle.std.proofs.Common.{ap, sym, ◌∙◌}
use Rattle.std.specs.Prelude.{slice_index_or}
use Rattle.std.specs.Option.{option_copied}
use Rattle.ur_values.specs.declared.value.Value.TheVariants as v
use Rattle.ur_values.specs.Order.{value_cmp}
use Rattle.ur_values.proofs.Cells.{no-cell, a-cell}
use Rattle.ur_values.proofs.keys.compare_cells.Goals as goal

pub returns-in-None : goal.returns-in-None
returns-in-None c =
    let right = slice_index_or c.args.b.now c.args.column v.Absent in
    c.compare_cell.ensures ∙ ap (λ x. value_cmp x right) (no-cell c.args.a.now c.args.column (sym c.get.ensures.value ∙ ap option_copied c.in-None.is))

pub returns-in-Some : goal.returns-in-Some
returns-in-Some c =
    let right = slice_index_or c.args.b.now c.args.column v.Absent in
    c.compare_cell-in-Some.ensures
    ∙ ap (λ x. value_cmp x right) (a-cell c.args.a.now c.args.column c.in-Some.value.now (sym c.get.ensures.value ∙ ap option_copied c.in-Some.is))
