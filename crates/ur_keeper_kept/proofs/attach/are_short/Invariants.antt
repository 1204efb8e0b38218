use Rattle.std.proofs.Common.{All, take}
use Rattle.ur_keeper_bodies.specs.Columns.{IsShort}
use Rattle.ur_keeper_kept.proofs.attach.are_short.Given as goal

abbrev pub invariant-loop-column : goal.invariant-loop-column
invariant-loop-column l = All (λ c. IsShort c.0) (take l.column-index l.column-items)
