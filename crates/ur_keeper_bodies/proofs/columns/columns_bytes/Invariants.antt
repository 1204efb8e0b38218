use Rattle.std.proofs.Common.{◌≡◌, ◌++◌, drop}
use Rattle.ur_keeper_bodies.specs.Columns.{columns_body}
use Rattle.ur_keeper_bodies.proofs.columns.columns_bytes.Given as goal

abbrev pub invariant-loop-place : goal.invariant-loop-place
invariant-loop-place l = l.bytes ++ columns_body (drop l.place l.columns) (drop l.place l.cells) ≡ columns_body l.columns l.cells
