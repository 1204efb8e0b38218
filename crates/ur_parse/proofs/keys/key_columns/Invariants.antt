use Rattle.std.proofs.Common.{◌-◌, ℕ, List, [], length}
use Rattle.ur_lex.specs.Spelling.{Text}
use Rattle.ur_parse_rules.specs.Places.{Moves}
use Rattle.ur_parse.specs.Tables.{ColumnsRead}
use Rattle.ur_parse.proofs.keys.key_columns.Given as goal

abbrev pub invariant-commas : goal.invariant-commas
invariant-commas l = record { moves : Moves l.tokens l.at l.end; read : (n : ℕ) (names : List Text) → ColumnsRead n l.tokens l.at l.initial.end names l.last [] → ColumnsRead n l.tokens l.at l.end names l.last l.constraints }

abbrev pub decreases-commas : goal.decreases-commas
decreases-commas l = length l.tokens - l.end
