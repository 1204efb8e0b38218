use Rattle.std.proofs.Common.{◌≡◌, ◌∙◌, ◌++◌, OnOk, ap, sym, subst}
use Rattle.ur_tree.specs.Text.{type_text}
use Rattle.ur_tree.proofs.Equations.{type_text-Form}
use Rattle.ur_tree.proofs.Pieces.{field-written, mapped-written, arrow-written}
use Rattle.ur_tree.proofs.text.+writing.Goals as goal

pub write_part-returns-in_ok-write_wrapped-in-Field : goal.write_part-returns-in_ok-write_wrapped-in-Field
write_part-returns-in_ok-write_wrapped-in-Field t c =
    field-written c.args.names.now _ _ _ c.in-Field.l c.in-Field.t c.get.result.now c.args.part.now c.in-Field.is c.get.ensures c.in_ok-write_label-in-Field.ensures c.in_ok-write_wrapped-in-Field.ensures

pub write_part-returns-in_ok-write_var-in-Mapped : goal.write_part-returns-in_ok-write_var-in-Mapped
write_part-returns-in_ok-write_var-in-Mapped t c =
    mapped-written c.args.names.now _ _ _ _ c.in-Mapped.v c.in-Mapped.f c.get-in-Mapped.result.now c.args.part.now c.in-Mapped.is c.get-in-Mapped.ensures
    c.in_ok-write_wrapped-in-Mapped.ensures c.in_ok-extend_from_slice-in-Mapped.ensures.ok c.in_ok-write_var-in-Mapped.ensures

pub write_type-returns-in_ok-write_wrapped-in-Arrow-2 : goal.write_type-returns-in_ok-write_wrapped-in-Arrow-2
write_type-returns-in_ok-write_wrapped-in-Arrow-2 t c =
    arrow-written c.args.names.now _ _ _ c.in-Arrow.a c.in-Arrow.b c.get-in-Arrow.result.now c.get-in-Arrow-2.result.now c.args.of.now c.in-Arrow.is c.get-in-Arrow.ensures c.get-in-Arrow-2.ensures
    c.in_ok-write_wrapped-in-Arrow.ensures c.in_ok-write_wrapped-in-Arrow-2.ensures

pub write_type-returns-in-Form : goal.write_type-returns-in-Form
write_type-returns-in-Form t c =
    subst (λ z. OnOk c.write_row-in-Form.result (c.write_row-in-Form.new.out ≡ c.args.out.now ++ z)) (sym (ap (type_text c.args.names.now) c.in-Form.is ∙ type_text-Form c.args.names.now c.in-Form.r)) c.write_row-in-Form.ensures
