use Rattle.std.proofs.Common.{length}
use Rattle.ur_rows_reduce.specs.Arguments.{args_of}
use Rattle.ur_rows_reduce.proofs.given.+applied.Given as goal

abbrev pub decreases-applied : goal.decreases-applied
decreases-applied l = length (args_of l.args.now)
