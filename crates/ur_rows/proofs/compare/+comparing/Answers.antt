use Rattle.std.proofs.Common.{rules, arith, sym, ap₂, ◌∙◌, nat_cmp}
use Rattle.ur_rows.proofs.Telling.{told-opt, told-many, told-transaction, told-arrow, told-record, told-form, told-tags, told-constant, told-labels, told-types, told-field-piece, told-field-mapped, told-piece-field, told-mapped-field, told-piece-mapped, told-mapped-piece, told-variables, told-functions, constant-tag, loop-longer, loop-shorter, loop-same, loop-differs, loop-goes}
use Rattle.ur_rows.proofs.compare.+comparing.Goals as goal

pub compare_parts-returns-then-not-is_eq : goal.compare_parts-returns-then-not-is_eq
compare_parts-returns-then-not-is_eq t c = told-labels c.in-Field.t c.in-Field-b.u c.in-Field.is c.in-Field-b.is (sym c.is_eq.ensures ∙ c.if-not-is_eq.true) c.compare_labels-by_label.ensures

pub compare_parts-returns-else-not-is_eq : goal.compare_parts-returns-else-not-is_eq
compare_parts-returns-else-not-is_eq t c = told-types c.in-Field.is c.in-Field-b.is c.get.ensures c.get-in-Field-b.ensures (sym c.is_eq.ensures ∙ c.if-not-is_eq.false) c.compare_labels-by_label.ensures c.compare_types.ensures

pub compare_parts-returns-in-Piece-b : goal.compare_parts-returns-in-Piece-b
compare_parts-returns-in-Piece-b t c = told-field-piece c.in-Field.l c.in-Field.t c.in-Field.is c.in-Piece-b.is

pub compare_parts-returns-in-Mapped-b : goal.compare_parts-returns-in-Mapped-b
compare_parts-returns-in-Mapped-b t c = told-field-mapped c.in-Field.l c.in-Field.t c.in-Mapped-b.field-1 c.in-Mapped-b.field-0 c.in-Field.is c.in-Mapped-b.is

pub compare_parts-returns-in-Field-b-2 : goal.compare_parts-returns-in-Field-b-2
compare_parts-returns-in-Field-b-2 t c = told-piece-field c.in-Field-b-2.field-0 c.in-Field-b-2.field-1 c.in-Piece.is c.in-Field-b-2.is

pub compare_parts-returns-in-Mapped-b-2 : goal.compare_parts-returns-in-Mapped-b-2
compare_parts-returns-in-Mapped-b-2 t c = told-piece-mapped c.in-Piece.v c.in-Mapped-b-2.w c.in-Mapped-b-2.field-1 c.in-Piece.is c.in-Mapped-b-2.is c.then.ensures c.compare_vars-in-Mapped-b-2.ensures

pub compare_parts-returns-in-Field-b-3 : goal.compare_parts-returns-in-Field-b-3
compare_parts-returns-in-Field-b-3 t c = told-mapped-field c.in-Field-b-3.field-0 c.in-Field-b-3.field-1 c.in-Mapped.t c.in-Mapped.v c.in-Mapped.is c.in-Field-b-3.is

pub compare_parts-returns-in-Piece-b-3 : goal.compare_parts-returns-in-Piece-b-3
compare_parts-returns-in-Piece-b-3 t c = told-mapped-piece c.in-Mapped.v c.in-Piece-b-3.w c.in-Mapped.t c.in-Mapped.is c.in-Piece-b-3.is c.then-in-Piece-b-3.ensures c.compare_vars-in-Piece-b-3.ensures

pub compare_parts-returns-then-not-is_eq-2 : goal.compare_parts-returns-then-not-is_eq-2
compare_parts-returns-then-not-is_eq-2 t c = told-variables c.in-Mapped.t c.in-Mapped-b-3.u c.in-Mapped.is c.in-Mapped-b-3.is (sym c.is_eq-in-Mapped-b-3.ensures ∙ c.if-not-is_eq-2.true) c.compare_vars-by_variable.ensures

pub compare_parts-returns-else-not-is_eq-2 : goal.compare_parts-returns-else-not-is_eq-2
compare_parts-returns-else-not-is_eq-2 t c = told-functions c.in-Mapped.is c.in-Mapped-b-3.is c.get-in-Mapped-b-3.ensures c.get-in-Mapped-b-3-2.ensures (sym c.is_eq-in-Mapped-b-3.ensures ∙ c.if-not-is_eq-2.false)
    c.compare_vars-by_variable.ensures c.compare_types-in-Mapped-b-3.ensures

pub compare_types-returns-then-not-is_eq : goal.compare_types-returns-then-not-is_eq
compare_types-returns-then-not-is_eq t c = told-tags c.args.a.now c.args.b.now c.cmp-by_tag.result
    (c.cmp-by_tag.ensures ∙ ap₂ nat_cmp c.tag.ensures c.tag-2.ensures) (sym c.is_eq.ensures ∙ c.if-not-is_eq.true)

pub compare_types-returns-in-Opt-b : goal.compare_types-returns-in-Opt-b
compare_types-returns-in-Opt-b t c = told-opt c.in-Opt.is c.in-Opt-b.is c.get.ensures c.get-in-Opt-b.ensures c.compare_types.ensures

pub compare_types-returns-in-Many-b : goal.compare_types-returns-in-Many-b
compare_types-returns-in-Many-b t c = told-many c.in-Many.is c.in-Many-b.is c.get-in-Many-b.ensures c.get-in-Many-b-2.ensures c.compare_types-in-Many-b.ensures

pub compare_types-returns-in-Transaction-b : goal.compare_types-returns-in-Transaction-b
compare_types-returns-in-Transaction-b t c = told-transaction c.in-Transaction.is c.in-Transaction-b.is c.get-in-Transaction-b.ensures c.get-in-Transaction-b-2.ensures c.compare_types-in-Transaction-b.ensures

pub compare_types-returns-in-Arrow-b : goal.compare_types-returns-in-Arrow-b
compare_types-returns-in-Arrow-b t c = told-arrow c.in-Arrow.is c.in-Arrow-b.is c.get-in-Arrow-b.ensures c.get-in-Arrow-b-2.ensures c.get-in-Arrow-b-3.ensures c.get-in-Arrow-b-4.ensures
    c.then.ensures c.compare_types-in-Arrow-b.ensures c.compare_types-in-Arrow-b-2.ensures

pub compare_types-returns-in-Record-b : goal.compare_types-returns-in-Record-b
compare_types-returns-in-Record-b t c = told-record c.in-Record.r c.in-Record-b.s c.in-Record.is c.in-Record-b.is c.compare_rows.ensures

pub compare_types-returns-in-Form-b : goal.compare_types-returns-in-Form-b
compare_types-returns-in-Form-b t c = told-form c.in-Form.r c.in-Form-b.s c.in-Form.is c.in-Form-b.is c.compare_rows-in-Form-b.ensures

pub compare_types-returns-in_default : goal.compare_types-returns-in_default
compare_types-returns-in_default t c = told-constant c.args.a.now c.args.b.now c.cmp-by_tag.result
    (c.cmp-by_tag.ensures ∙ ap₂ nat_cmp c.tag.ensures c.tag-2.ensures) (sym c.is_eq.ensures ∙ c.if-not-is_eq.false)
    (constant-tag c.args.a.now c.in_default.not-Variable c.in_default.not-Datatype c.in_default.not-Opt c.in_default.not-Many c.in_default.not-Transaction c.in_default.not-Arrow c.in_default.not-Record c.in_default.not-Form)

pub compare_rows-returns-then-i-ys : goal.compare_rows-returns-then-i-ys
compare_rows-returns-then-i-ys t c = loop-longer c.args.a.now c.args.b.now c.as_slice-xs.result.now c.as_slice-ys.result.now c.loop-i.i c.as_slice-xs.ensures c.as_slice-ys.ensures
    c.loop-i.invariant.1 c.loop-i-test.true c.if-i-ys.true

pub compare_rows-returns-then-not-is_eq : goal.compare_rows-returns-then-not-is_eq
compare_rows-returns-then-not-is_eq t c = loop-differs c.args.a.now c.args.b.now c.as_slice-xs.result.now c.as_slice-ys.result.now c.loop-i.i c.index-xs-i.result c.index-ys-i.result
    c.compare_parts-order.result c.as_slice-xs.ensures c.as_slice-ys.ensures c.loop-i.invariant.1 c.loop-i-test.true (omega arith)
    c.index-xs-i.is c.index-ys-i.is c.compare_parts-order.ensures (sym c.is_eq.ensures ∙ c.if-not-is_eq.true)

pub compare_rows-loop-i-preserved : goal.compare_rows-loop-i-preserved
compare_rows-loop-i-preserved t c = (
  omega arith,
  loop-goes c.as_slice-xs.result.now c.as_slice-ys.result.now c.loop-i.i c.index-xs-i.result c.index-ys-i.result
      c.compare_parts-order.result c.loop-i.invariant.1 c.loop-i-test.true (omega arith)
      c.index-xs-i.is c.index-ys-i.is c.compare_parts-order.ensures (sym c.is_eq.ensures ∙ c.if-not-is_eq.false),
)

pub compare_rows-returns-then-xs-ys : goal.compare_rows-returns-then-xs-ys
compare_rows-returns-then-xs-ys t c = loop-same c.args.a.now c.args.b.now c.as_slice-xs.result.now c.as_slice-ys.result.now c.loop-i.i c.as_slice-xs.ensures c.as_slice-ys.ensures
    c.loop-i.invariant.1 c.loop-i-test.false (omega arith)

pub compare_rows-returns-else-xs-ys : goal.compare_rows-returns-else-xs-ys
compare_rows-returns-else-xs-ys t c = loop-shorter c.args.a.now c.args.b.now c.as_slice-xs.result.now c.as_slice-ys.result.now c.loop-i.i c.as_slice-xs.ensures c.as_slice-ys.ensures
    c.loop-i.invariant.1 c.loop-i-test.false (omega arith)
