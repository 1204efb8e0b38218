use Rattle.std.proofs.Common.{◌-◌, ℕ, length}
use Rattle.ur_parse_rules.specs.Places.{Moves}
use Rattle.ur_parse.proofs.Listed.{Enclosed}
use Rattle.ur_parse.proofs.columns.enclosed.Given as goal

abbrev pub invariant-commas : goal.invariant-commas
invariant-commas l = record { moves : Moves l.tokens l.at l.end; read : (n : ℕ) → Enclosed n l.tokens l.at l.end l.names }

abbrev pub decreases-commas : goal.decreases-commas
decreases-commas l = length l.tokens - l.end
