-- What the columns of the parts say of those of the whole.
use Rattle.ur_sql.specs.Typing.{ReadsOnly}
use Rattle.ur_verify.proofs.HavingKinds.{reads_Or, reads_And, reads_Compare, reads_Add, reads_Sub, reads_Mul, reads_Not, reads_Neg, reads_Present}
use Rattle.ur_verify.proofs.Loops.{then_of, else_of, one_of}
use Rattle.ur_verify.proofs.scalars.+reads_only.Goals as goal

pub returns-then-reads_only : goal.returns-then-reads_only
returns-then-reads_only t c =
    then_of (ReadsOnly c.args.group.now) _ _ _ _ _ _ c.in-Or.is (reads_Or c.args.group.now c.in-Or.a c.in-Or.b) c.get.ensures c.get-then-reads_only.ensures _ _
    c.reads_only.ensures c.if-reads_only.true c.reads_only-then-reads_only.ensures

pub returns-else-reads_only : goal.returns-else-reads_only
returns-else-reads_only t c =
    else_of (ReadsOnly c.args.group.now) _ _ _ c.in-Or.b _ c.in-Or.is (reads_Or c.args.group.now c.in-Or.a c.in-Or.b) c.get.ensures _ c.reads_only.ensures c.if-reads_only.false

pub returns-then-reads_only-2 : goal.returns-then-reads_only-2
returns-then-reads_only-2 t c =
    then_of (ReadsOnly c.args.group.now) _ _ _ _ _ _ c.in-And.is (reads_And c.args.group.now c.in-And.a c.in-And.b) c.get-in-And.ensures c.get-then-reads_only-2.ensures _ _
    c.reads_only-in-And.ensures c.if-reads_only-2.true c.reads_only-then-reads_only-2.ensures

pub returns-else-reads_only-2 : goal.returns-else-reads_only-2
returns-else-reads_only-2 t c =
    else_of (ReadsOnly c.args.group.now) _ _ _ c.in-And.b _ c.in-And.is (reads_And c.args.group.now c.in-And.a c.in-And.b) c.get-in-And.ensures _ c.reads_only-in-And.ensures c.if-reads_only-2.false

pub returns-then-reads_only-3 : goal.returns-then-reads_only-3
returns-then-reads_only-3 t c =
    then_of (ReadsOnly c.args.group.now) _ _ _ _ _ _ c.in-Compare.is (reads_Compare c.args.group.now c.in-Compare.field-0 c.in-Compare.a c.in-Compare.b) c.get-in-Compare.ensures c.get-then-reads_only-3.ensures _ _
    c.reads_only-in-Compare.ensures c.if-reads_only-3.true c.reads_only-then-reads_only-3.ensures

pub returns-else-reads_only-3 : goal.returns-else-reads_only-3
returns-else-reads_only-3 t c =
    else_of (ReadsOnly c.args.group.now) _ _ _ c.in-Compare.b _ c.in-Compare.is (reads_Compare c.args.group.now c.in-Compare.field-0 c.in-Compare.a c.in-Compare.b) c.get-in-Compare.ensures _ c.reads_only-in-Compare.ensures c.if-reads_only-3.false

pub returns-then-reads_only-4 : goal.returns-then-reads_only-4
returns-then-reads_only-4 t c =
    then_of (ReadsOnly c.args.group.now) _ _ _ _ _ _ c.in-Add.is (reads_Add c.args.group.now c.in-Add.a c.in-Add.b) c.get-in-Add.ensures c.get-then-reads_only-4.ensures _ _
    c.reads_only-in-Add.ensures c.if-reads_only-4.true c.reads_only-then-reads_only-4.ensures

pub returns-else-reads_only-4 : goal.returns-else-reads_only-4
returns-else-reads_only-4 t c =
    else_of (ReadsOnly c.args.group.now) _ _ _ c.in-Add.b _ c.in-Add.is (reads_Add c.args.group.now c.in-Add.a c.in-Add.b) c.get-in-Add.ensures _ c.reads_only-in-Add.ensures c.if-reads_only-4.false

pub returns-then-reads_only-5 : goal.returns-then-reads_only-5
returns-then-reads_only-5 t c =
    then_of (ReadsOnly c.args.group.now) _ _ _ _ _ _ c.in-Sub.is (reads_Sub c.args.group.now c.in-Sub.a c.in-Sub.b) c.get-in-Sub.ensures c.get-then-reads_only-5.ensures _ _
    c.reads_only-in-Sub.ensures c.if-reads_only-5.true c.reads_only-then-reads_only-5.ensures

pub returns-else-reads_only-5 : goal.returns-else-reads_only-5
returns-else-reads_only-5 t c =
    else_of (ReadsOnly c.args.group.now) _ _ _ c.in-Sub.b _ c.in-Sub.is (reads_Sub c.args.group.now c.in-Sub.a c.in-Sub.b) c.get-in-Sub.ensures _ c.reads_only-in-Sub.ensures c.if-reads_only-5.false

pub returns-then-reads_only-6 : goal.returns-then-reads_only-6
returns-then-reads_only-6 t c =
    then_of (ReadsOnly c.args.group.now) _ _ _ _ _ _ c.in-Mul.is (reads_Mul c.args.group.now c.in-Mul.a c.in-Mul.b) c.get-in-Mul.ensures c.get-then-reads_only-6.ensures _ _
    c.reads_only-in-Mul.ensures c.if-reads_only-6.true c.reads_only-then-reads_only-6.ensures

pub returns-else-reads_only-6 : goal.returns-else-reads_only-6
returns-else-reads_only-6 t c =
    else_of (ReadsOnly c.args.group.now) _ _ _ c.in-Mul.b _ c.in-Mul.is (reads_Mul c.args.group.now c.in-Mul.a c.in-Mul.b) c.get-in-Mul.ensures _ c.reads_only-in-Mul.ensures c.if-reads_only-6.false

pub returns-in-Not : goal.returns-in-Not
returns-in-Not t c = one_of (ReadsOnly c.args.group.now) _ _ _ _ c.in-Not.is (reads_Not c.args.group.now c.in-Not.a) c.get-in-Not.ensures _ c.reads_only-in-Not.ensures

pub returns-in-Neg : goal.returns-in-Neg
returns-in-Neg t c = one_of (ReadsOnly c.args.group.now) _ _ _ _ c.in-Neg.is (reads_Neg c.args.group.now c.in-Neg.a) c.get-in-Neg.ensures _ c.reads_only-in-Neg.ensures

pub returns-in-Present : goal.returns-in-Present
returns-in-Present t c =
    one_of (ReadsOnly c.args.group.now) _ _ _ _ c.in-Present.is (reads_Present c.args.group.now c.in-Present.a) c.get-in-Present.ensures _
    c.reads_only-in-Present.ensures
