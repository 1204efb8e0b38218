use Rattle.ur_sql.specs.declared.scalar.Scalar.TheVariants as s
use Rattle.ur_sqltype.proofs.SqltypeEquations.{outside_in-Or, outside_in-And, outside_in-Compare, outside_in-Add, outside_in-Sub, outside_in-Mul, of_two}
use Rattle.ur_sqltype.proofs.grouped.+outside_in.Goals as goal

pub returns-in-Or : goal.returns-in-Or
returns-in-Or t c =
    of_two c.args.group.now c.args.by.now (s.Or c.in-Or.a c.in-Or.b) c.in-Or.a c.in-Or.b c.get.result.now c.get-in-Or.result.now c.outside_in.result c.outside_in-in-Or.result c.or_else.result (outside_in-Or c.args.group.now c.in-Or.a c.in-Or.b) c.in-Or.is
    c.get.ensures c.get-in-Or.ensures c.outside_in.ensures c.outside_in-in-Or.ensures c.or_else.ensures

pub returns-in-And : goal.returns-in-And
returns-in-And t c =
    of_two c.args.group.now c.args.by.now (s.And c.in-And.a c.in-And.b) c.in-And.a c.in-And.b c.get-in-And.result.now c.get-in-And-2.result.now c.outside_in-in-And.result c.outside_in-in-And-2.result c.or_else-in-And.result (outside_in-And c.args.group.now c.in-And.a c.in-And.b) c.in-And.is
    c.get-in-And.ensures c.get-in-And-2.ensures c.outside_in-in-And.ensures c.outside_in-in-And-2.ensures c.or_else-in-And.ensures

pub returns-in-Compare : goal.returns-in-Compare
returns-in-Compare t c =
    of_two c.args.group.now c.args.by.now (s.Compare c.in-Compare.field-0 c.in-Compare.a c.in-Compare.b) c.in-Compare.a c.in-Compare.b c.get-in-Compare.result.now c.get-in-Compare-2.result.now c.outside_in-in-Compare.result c.outside_in-in-Compare-2.result c.or_else-in-Compare.result (outside_in-Compare c.args.group.now c.in-Compare.field-0 c.in-Compare.a c.in-Compare.b) c.in-Compare.is
    c.get-in-Compare.ensures c.get-in-Compare-2.ensures c.outside_in-in-Compare.ensures c.outside_in-in-Compare-2.ensures c.or_else-in-Compare.ensures

pub returns-in-Add : goal.returns-in-Add
returns-in-Add t c =
    of_two c.args.group.now c.args.by.now (s.Add c.in-Add.a c.in-Add.b) c.in-Add.a c.in-Add.b c.get-in-Add.result.now c.get-in-Add-2.result.now c.outside_in-in-Add.result c.outside_in-in-Add-2.result c.or_else-in-Add.result (outside_in-Add c.args.group.now c.in-Add.a c.in-Add.b) c.in-Add.is
    c.get-in-Add.ensures c.get-in-Add-2.ensures c.outside_in-in-Add.ensures c.outside_in-in-Add-2.ensures c.or_else-in-Add.ensures

pub returns-in-Sub : goal.returns-in-Sub
returns-in-Sub t c =
    of_two c.args.group.now c.args.by.now (s.Sub c.in-Sub.a c.in-Sub.b) c.in-Sub.a c.in-Sub.b c.get-in-Sub.result.now c.get-in-Sub-2.result.now c.outside_in-in-Sub.result c.outside_in-in-Sub-2.result c.or_else-in-Sub.result (outside_in-Sub c.args.group.now c.in-Sub.a c.in-Sub.b) c.in-Sub.is
    c.get-in-Sub.ensures c.get-in-Sub-2.ensures c.outside_in-in-Sub.ensures c.outside_in-in-Sub-2.ensures c.or_else-in-Sub.ensures

pub returns-in-Mul : goal.returns-in-Mul
returns-in-Mul t c =
    of_two c.args.group.now c.args.by.now (s.Mul c.in-Mul.a c.in-Mul.b) c.in-Mul.a c.in-Mul.b c.get-in-Mul.result.now c.get-in-Mul-2.result.now c.outside_in-in-Mul.result c.outside_in-in-Mul-2.result c.or_else-in-Mul.result (outside_in-Mul c.args.group.now c.in-Mul.a c.in-Mul.b) c.in-Mul.is
    c.get-in-Mul.ensures c.get-in-Mul-2.ensures c.outside_in-in-Mul.ensures c.outside_in-in-Mul-2.ensures c.or_else-in-Mul.ensures
