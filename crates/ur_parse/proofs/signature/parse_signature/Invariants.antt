use Rattle.std.proofs.Common.{◌-◌, ◌≤◌, length}
use Rattle.ur_parse.proofs.Items.{ValsRead}
use Rattle.ur_parse.proofs.signature.parse_signature.Given as goal

abbrev pub invariant-vals : goal.invariant-vals
invariant-vals l = record { within : l.at ≤ length l.tokens; read : ValsRead 256 l.tokens l.at l.vals }

abbrev pub decreases-vals : goal.decreases-vals
decreases-vals l = length l.tokens - l.at
