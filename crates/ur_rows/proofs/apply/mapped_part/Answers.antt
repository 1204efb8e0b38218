use Rattle.ur_rows.proofs.PutMade.{ok-is, map-field-is, map-mapped-is}
use Rattle.ur_rows.proofs.apply.mapped_part.Goals as goal

pub returns-in_ok-boxed-in-Field : goal.returns-in_ok-boxed-in-Field
returns-in_ok-boxed-in-Field c = map-field-is c.args.f.now c.args.p.now c.in-Field.l c.in_ok-l-in-Field.l c.in-Field.t c.get.result.now c.in_ok-t-in-Field.t c.in_ok-boxed-in-Field.field-0
    c.in-Field.is c.in_ok-l-in-Field.ensures c.get.ensures c.in_ok-t-in-Field.ensures c.in_ok-boxed-in-Field.ensures

pub returns-in_ok-h-in-Mapped : goal.returns-in_ok-h-in-Mapped
returns-in_ok-h-in-Mapped c = ok-is c.mapped_variable-in-Mapped.result _ _
    (map-mapped-is c.args.f.now c.args.p.now c.in-Mapped.v c.copy_var-in-Mapped.result c.in-Mapped.g c.get-in-Mapped.result.now c.in_ok-h-in-Mapped.h
    c.in-Mapped.is c.copy_var-in-Mapped.ensures c.get-in-Mapped.ensures c.in_ok-h-in-Mapped.ensures) c.mapped_variable-in-Mapped.ensures
