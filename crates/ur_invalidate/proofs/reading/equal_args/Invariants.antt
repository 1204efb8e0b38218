use Rattle.std.proofs.Common.{◌≡◌, take, map}
use Rattle.ur_sql.specs.declared.pattern.Guard.TheVariants as guard
use Rattle.ur_invalidate.proofs.reading.equal_args.Given as goal

abbrev pub invariant-loop-other : goal.invariant-loop-other
invariant-loop-other l = l.guards ≡ map (guard.Args l.number) (take l.other-index l.others)
