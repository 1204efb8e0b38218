use Rattle.std.proofs.Common.{◌≡◌, drop}
use Rattle.std.specs.List.{list_any}
use Rattle.ur_invalidate.specs.Reading.{clash}
use Rattle.ur_invalidate.proofs.reading.have_clash.Given as goal

abbrev pub invariant-loop-constant : goal.invariant-loop-constant
invariant-loop-constant l = list_any (λ c. list_any (clash c) l.constants) (drop l.constant-index l.constants) ≡ list_any (λ c. list_any (clash c) l.constants) l.constants
