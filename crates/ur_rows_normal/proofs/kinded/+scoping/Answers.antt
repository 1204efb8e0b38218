use Rattle.ur_rows_normal.specs.Scope.{within}
use Rattle.ur_rows_normal.proofs.Scoping.{opt-in, many-in, transaction-in, arrow-then, field-then, mapped-then}
use Rattle.ur_rows_normal.proofs.kinded.+scoping.Goals as goal

pub type_is_in-returns-then-left : goal.type_is_in-returns-then-left
type_is_in-returns-then-left t c = arrow-then (within c.args.free.now c.args.depth) c.args.t.now c.in-Arrow.a c.in-Arrow.b c.get-in-Arrow.result.now c.get-in-Arrow-2.result.now
    c.in_ok-left-in-Arrow.left c.in_ok-right-in-Arrow.right c.in-Arrow.is c.get-in-Arrow.ensures c.get-in-Arrow-2.ensures c.in_ok-left-in-Arrow.ensures c.in_ok-right-in-Arrow.ensures c.if-left.true

pub part_is_in-returns-then-label_is_in : goal.part_is_in-returns-then-label_is_in
part_is_in-returns-then-label_is_in t c = field-then (within c.args.free.now c.args.depth) c.args.p.now c.in-Field.l c.in-Field.t c.get.result.now c.label_is_in.result c.in_ok-of-in-Field.of
    c.in-Field.is c.get.ensures (c.label_is_in.ensures c.args.depth) c.in_ok-of-in-Field.ensures c.if-label_is_in.true

pub part_is_in-returns-then-is_row : goal.part_is_in-returns-then-is_row
part_is_in-returns-then-is_row t c = mapped-then c.args.free.now c.args.depth c.in_ok-deeper-in-Mapped.field-0 c.args.p.now c.in-Mapped.v c.in-Mapped.f c.get-in-Mapped.result.now c.is_row-in-Mapped.result
    c.in_ok-within-in-Mapped.within c.in-Mapped.is c.get-in-Mapped.ensures c.in_ok-deeper-in-Mapped.ensures (c.is_row-in-Mapped.ensures c.args.depth) c.in_ok-within-in-Mapped.ensures c.if-is_row.true

pub type_is_in-returns-in-Opt : goal.type_is_in-returns-in-Opt
type_is_in-returns-in-Opt t c = opt-in c.type_is_in.result (within c.args.free.now c.args.depth) c.args.t.now c.in-Opt.x c.get.result.now c.in-Opt.is c.get.ensures c.type_is_in.ensures

pub type_is_in-returns-in-Many : goal.type_is_in-returns-in-Many
type_is_in-returns-in-Many t c = many-in c.type_is_in-in-Many.result (within c.args.free.now c.args.depth) c.args.t.now c.in-Many.x c.get-in-Many.result.now c.in-Many.is c.get-in-Many.ensures c.type_is_in-in-Many.ensures

pub type_is_in-returns-in-Transaction : goal.type_is_in-returns-in-Transaction
type_is_in-returns-in-Transaction t c = transaction-in c.type_is_in-in-Transaction.result (within c.args.free.now c.args.depth) c.args.t.now c.in-Transaction.x c.get-in-Transaction.result.now c.in-Transaction.is c.get-in-Transaction.ensures c.type_is_in-in-Transaction.ensures
