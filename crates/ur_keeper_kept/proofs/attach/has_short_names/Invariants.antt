use Rattle.std.proofs.Common.{All, take}
use Rattle.ur_keeper_bodies.specs.Columns.{IsShort}
use Rattle.ur_keeper_kept.proofs.attach.has_short_names.Given as goal

abbrev pub invariant-loop-shape : goal.invariant-loop-shape
invariant-loop-shape l = All (λ shape. All (λ c. IsShort c.0) shape.columns) (take l.shape-index l.shape-items)
