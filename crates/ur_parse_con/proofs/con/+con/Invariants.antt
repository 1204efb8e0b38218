use Rattle.std.proofs.Common.{◌+◌, ◌-◌, ◌*◌, ◌≤◌, ◌<◌, ℕ, length, drop, ◌++◌}
use Rattle.ur_lex.specs.declared.token.Lexeme.{Lexeme}
use Rattle.ur_parse_rules.specs.Places.{Moves}
use Rattle.ur_parse_rules.proofs.Steps.{Leads}
use Rattle.ur_parse_rules.specs.ConParts.{row, row_tail, fields, fields_tail}
use Rattle.ur_parse_rules.specs.Parts.{of_con}
use Rattle.ur_parse_rules.specs.Language.{language}
use Rattle.ur_parse_con.specs.declared.joins.Join.TheVariants as joins
use Rattle.ur_parse_con.proofs.Joining.{Chain, ArrowReads, ArrowRefuses, ArrowOperand, ConcatReads, ConcatRefuses, ConcatOperand}
use Rattle.ur_parse_con.proofs.Arguments.{ArgsRead}
use Rattle.ur_parse_con.proofs.con.+con.Given as goal

abbrev pub decreases-con : goal.decreases-con
decreases-con l = 5 * (length l.tokens.now - l.at) + 4

abbrev pub decreases-arrow : goal.decreases-arrow
decreases-arrow l = 5 * (length l.tokens.now - l.at) + 3

abbrev pub decreases-concat : goal.decreases-concat
decreases-concat l = 5 * (length l.tokens.now - l.at) + 2

abbrev pub decreases-app : goal.decreases-app
decreases-app l = 5 * (length l.tokens.now - l.at) + 1

abbrev pub decreases-atom : goal.decreases-atom
decreases-atom l = 5 * (length l.tokens.now - l.at)

abbrev pub decreases-row : goal.decreases-row
decreases-row l = 5 * (length l.tokens.now - l.at) + 1

abbrev pub decreases-row_field : goal.decreases-row_field
decreases-row_field l = 5 * (length l.tokens.now - l.at)

abbrev pub decreases-fields : goal.decreases-fields
decreases-fields l = 5 * (length l.tokens.now - l.at) + 1

abbrev pub decreases-record_field : goal.decreases-record_field
decreases-record_field l = 5 * (length l.tokens.now - l.at)

abbrev pub invariant-arrow-links : goal.invariant-arrow-links
invariant-arrow-links l = record {
  start : l.at ≤ l.begin;
  last : Moves l.tokens l.begin l.last.end;
  read : ArrowOperand l.depth l.keys l.tokens l.begin l.last.end l.last.tree;
  chain : Chain l.tokens joins.Arrow (ArrowReads l.depth l.keys l.tokens) (ArrowRefuses l.depth l.keys l.tokens) l.at l.begin l.left;
}

abbrev pub decreases-arrow-links : goal.decreases-arrow-links
decreases-arrow-links l = length l.tokens - l.last.end

abbrev pub invariant-concat-links : goal.invariant-concat-links
invariant-concat-links l = record {
  start : l.at ≤ l.begin;
  last : Moves l.tokens l.begin l.last.end;
  read : ConcatOperand l.depth l.keys l.tokens l.begin l.last.end l.last.tree;
  chain : Chain l.tokens joins.Concat (ConcatReads l.depth l.keys l.tokens) (ConcatRefuses l.depth l.keys l.tokens) l.at l.begin l.left;
}

abbrev pub decreases-concat-links : goal.decreases-concat-links
decreases-concat-links l = length l.tokens - l.last.end

abbrev pub invariant-app-arguments : goal.invariant-app-arguments
invariant-app-arguments l = record {
  moves : Moves l.tokens l.at l.function.end;
  args : ArgsRead l.depth l.keys l.tokens l.at l.initial.function.end l.function.end l.initial.function.tree l.function.tree;
}

abbrev pub decreases-app-arguments : goal.decreases-app-arguments
decreases-app-arguments l = length l.tokens - l.function.end

abbrev pub invariant-row-commas : goal.invariant-row-commas
invariant-row-commas l = record {
  moves : Moves l.tokens l.at l.end;
  leads : Leads language l.depth (of_con row) (of_con row_tail) (drop l.at l.tokens) (drop l.end l.tokens) (λ ys. l.list ++ ys);
}

abbrev pub decreases-row-commas : goal.decreases-row-commas
decreases-row-commas l = length l.tokens - l.end

abbrev pub invariant-fields-commas : goal.invariant-fields-commas
invariant-fields-commas l = record {
  moves : Moves l.tokens l.at l.end;
  leads : Leads language l.depth (of_con fields) (of_con fields_tail) (drop l.at l.tokens) (drop l.end l.tokens) (λ ys. l.list ++ ys);
}

abbrev pub decreases-fields-commas : goal.decreases-fields-commas
decreases-fields-commas l = length l.tokens - l.end
