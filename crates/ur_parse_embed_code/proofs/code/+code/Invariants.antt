use Rattle.std.proofs.Common.{ℕ, ◌+◌, ◌-◌, ◌*◌, ◌≤◌, length}
use Rattle.ur_parse_embed_code.proofs.Codes.{Ahead}
use Rattle.ur_parse_embed_code.proofs.code.+code.Given as goal

abbrev pub decreases-pieces : goal.decreases-pieces
decreases-pieces l = 3 * (length l.tokens.now - l.at) + 1

abbrev pub decreases-piece : goal.decreases-piece
decreases-piece l = 3 * (length l.tokens.now - l.at)

abbrev pub decreases-bracketed : goal.decreases-bracketed
decreases-bracketed l = 3 * (length l.tokens.now - l.at) + 2

abbrev pub invariant-pieces-pieces : goal.invariant-pieces-pieces
invariant-pieces-pieces l = record { start : l.at ≤ l.end; within : l.at ≤ length l.tokens → l.end ≤ length l.tokens; ahead : (n : ℕ) → Ahead n l.tokens l.at l.end }

abbrev pub decreases-pieces-pieces : goal.decreases-pieces-pieces
decreases-pieces-pieces l = length l.tokens - l.end
