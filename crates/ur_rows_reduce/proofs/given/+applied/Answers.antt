use Rattle.std.proofs.Common.{length}
use Rattle.ur_rows_reduce.specs.Arguments.{args_of}
use Rattle.ur_rows_reduce.proofs.Applying.{below, fewer-args, none-applied, more-applied}
use Rattle.ur_rows_reduce.proofs.given.+applied.Goals as goal

pub applied-requires : goal.applied-requires
applied-requires _ c = (below (length (args_of c.in-More.rest.now)) (length (args_of c.args.args.now)) _ c.decreases (fewer-args c.args.args.now c.in-More.a c.in-More.rest c.in-More.is), tt)

pub returns-in-Empty : goal.returns-in-Empty
returns-in-Empty _ c = none-applied c.args.f c.args.args.now c.in-Empty.is

pub returns-in_ok-form-in-More : goal.returns-in_ok-form-in-More
returns-in_ok-form-in-More _ c = more-applied c.applied.result c.args.f c.in_ok-form-in-More.form c.args.args.now c.in-More.a c.in-More.rest c.in-More.is c.in_ok-form-in-More.ensures c.applied.ensures
