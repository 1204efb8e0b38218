use Rattle.std.proofs.Common.{◌≡◌, ◌-◌, ◌≤◌, length, drop}
use Rattle.ur_lex.specs.Lexing.{after_comments}
use Rattle.ur_lex.proofs.scan.comment.Given as goal

abbrev pub invariant-loop-open : goal.invariant-loop-open
invariant-loop-open l = record { begun : 2 ≤ l.at; within : l.at ≤ length l.bytes; fewer : l.open ≤ l.at; same : after_comments 1 (drop 2 l.bytes) ≡ after_comments l.open (drop l.at l.bytes) }

abbrev pub decreases-loop-open : goal.decreases-loop-open
decreases-loop-open l = length l.initial.bytes - l.at
