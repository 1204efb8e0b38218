use Rattle.std.proofs.Common.{◌-◌, ℕ, length}
use Rattle.ur_parse_rules.specs.Places.{Moves}
use Rattle.ur_parse.proofs.Listed.{ListRead}
use Rattle.ur_parse.proofs.columns.listed.Given as goal

abbrev pub invariant-commas : goal.invariant-commas
invariant-commas l = record { moves : Moves l.tokens l.at l.end; read : (n : ℕ) → ListRead n l.tokens l.at l.end l.names l.last }

abbrev pub decreases-commas : goal.decreases-commas
decreases-commas l = length l.tokens - l.end
