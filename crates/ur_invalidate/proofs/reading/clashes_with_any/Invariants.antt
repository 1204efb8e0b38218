use Rattle.std.proofs.Common.{◌≡◌, drop}
use Rattle.std.specs.List.{list_any}
use Rattle.ur_invalidate.specs.Reading.{clash}
use Rattle.ur_invalidate.proofs.reading.clashes_with_any.Given as goal

abbrev pub invariant-loop-other : goal.invariant-loop-other
invariant-loop-other l = list_any (clash l.constant) (drop l.other-index l.others) ≡ list_any (clash l.constant) l.others
