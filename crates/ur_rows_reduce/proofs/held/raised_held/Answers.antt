use Rattle.ur_rows_reduce.specs.declared.held.Large.TheVariants as large
use Rattle.ur_rows_reduce.proofs.Holding.{raised-large, raised-row, type-raised-large, function-raised-large, any-raised-large}
use Rattle.ur_rows_reduce.proofs.held.raised_held.Goals as goal

pub returns-in-Type : goal.returns-in-Type
returns-in-Type c = raised-large c.args.h.now c.in-Large.large large.Type c.args.by c.in-Large.is c.in-Type.is (type-raised-large c.args.by)

pub returns-in-TypeFunction : goal.returns-in-TypeFunction
returns-in-TypeFunction c = raised-large c.args.h.now c.in-Large.large large.TypeFunction c.args.by c.in-Large.is c.in-TypeFunction.is (function-raised-large c.args.by)

pub returns-in-Function : goal.returns-in-Function
returns-in-Function c = raised-large c.args.h.now c.in-Large.large large.Function c.args.by c.in-Large.is c.in-Function.is (any-raised-large c.args.by)

pub returns-in_ok-raised_outline-in-Row : goal.returns-in_ok-raised_outline-in-Row
returns-in_ok-raised_outline-in-Row c = raised-row c.args.h.now c.in-Large.large c.in-Row.o c.in_ok-raised_outline-in-Row.field-0 c.args.by c.in-Large.is c.in-Row.is c.in_ok-raised_outline-in-Row.ensures
