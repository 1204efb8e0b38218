use Rattle.std.proofs.Common.{ap, sym, ◌∙◌}
use Rattle.ur_rows.specs.Put.{as_type, as_row}
use Rattle.ur_rows.proofs.Shapes.{fn-made}
use Rattle.ur_rows_reduce.specs.Height.{type_height, row_height}
use Rattle.ur_rows_reduce.proofs.Lifting.{argument-within}
use Rattle.ur_rows_reduce.proofs.putting.argument_levels.Goals as goal

pub returns-in_ok-as_type-in-Type : goal.returns-in_ok-as_type-in-Type
returns-in_ok-as_type-in-Type c = argument-within c.args.a.now c.in_ok-as_type-in-Type.as_type 0 (c.in_ok-as_type-in-Type.ensures.0 ∙ ap (λ z. type_height (as_type z)) (sym c.in-Type.is))
    (ap (λ z. row_height (as_row z)) (sym c.in-Type.is))

pub returns-in_ok-as_row-in-Row : goal.returns-in_ok-as_row-in-Row
returns-in_ok-as_row-in-Row c = argument-within c.args.a.now 1 c.in_ok-as_row-in-Row.as_row (ap (λ z. type_height (as_type z)) (sym c.in-Row.is))
    (c.in_ok-as_row-in-Row.ensures.0 ∙ ap (λ z. row_height (as_row z)) (sym c.in-Row.is))

pub returns-in-Name : goal.returns-in-Name
returns-in-Name c = argument-within c.args.a.now 1 0 (ap (λ z. type_height (as_type z)) (sym c.in-Name.is)) (ap (λ z. row_height (as_row z)) (sym c.in-Name.is))

pub returns-in-Fn : goal.returns-in-Fn
returns-in-Fn c = argument-within c.args.a.now 1 0 (sym (ap (λ z. type_height (as_type z)) (c.in-Fn.is ∙ fn-made _ _))) (sym (ap (λ z. row_height (as_row z)) (c.in-Fn.is ∙ fn-made _ _)))
