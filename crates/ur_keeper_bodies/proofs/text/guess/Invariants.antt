-- What is left makes the schema of the whole.
use Rattle.std.proofs.Common.{◌≡◌, drop}
use Rattle.ur_keeper_bodies.specs.Lines.{read_lines, no_schema}
use Rattle.ur_keeper_bodies.specs.Pieces.{pieces}
use Rattle.ur_keeper_bodies.proofs.text.guess.Given as goal

abbrev pub invariant-loop-line : goal.invariant-loop-line
invariant-loop-line l = read_lines l.schema (drop l.line-index l.line-items) ≡ read_lines no_schema (pieces 10 l.bytes)
