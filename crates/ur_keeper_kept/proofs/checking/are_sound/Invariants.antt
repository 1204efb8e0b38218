use Rattle.std.proofs.Common.{All, take, ◌≤◌}
use Rattle.ur_keeper_kept.proofs.checking.are_sound.Given as goal

abbrev pub invariant-loop-row : goal.invariant-loop-row
invariant-loop-row l = All (λ r. r.number ≤ 4611686018427387904) (take l.row-index l.rows)
