use Rattle.std.proofs.Common.{◌+◌, ◌-◌, ◌*◌, ◌≤◌, length, drop, ◌++◌}
use Rattle.ur_parse_rules.specs.Rules.{Read, Stops}
use Rattle.ur_parse_rules.specs.Places.{Moves}
use Rattle.ur_parse_rules.proofs.Steps.{Leads}
use Rattle.ur_parse_rules.specs.Classes.{member}
use Rattle.ur_parse_rules.specs.Ends.{operand_more}
use Rattle.ur_parse_rules.specs.ExpParts as e
use Rattle.ur_parse_rules.specs.Parts.{of_exp}
use Rattle.ur_parse_rules.specs.Language.{language}
use Rattle.ur_parse_con.specs.Operators.{level_of}
use Rattle.ur_parse_exp_parts.proofs.Levels.{Grouped}
use Rattle.ur_parse_exp.proofs.Ranks.{rank}
use Rattle.ur_parse_exp.proofs.Consing.{ConsChain}
use Rattle.ur_parse_exp.proofs.ChoiceRules.{ChoiceChain}
use Rattle.ur_parse_exp.proofs.Applying.{Applied}
use Rattle.ur_parse_exp.proofs.Branches.{Branched}
use Rattle.ur_parse_exp.proofs.Records.{Vals}
use Rattle.ur_parse_exp.proofs.Coding.{Reading}
use Rattle.ur_parse_exp.proofs.+exp.Given as goal

abbrev pub decreases-line::exp : goal.decreases-line::exp
decreases-line::exp l = 30 * (length l.tokens.now - l.at) + 25

abbrev pub decreases-line::line : goal.decreases-line::line
decreases-line::line l = 30 * (length l.tokens.now - l.at) + 24

abbrev pub decreases-line::conditional : goal.decreases-line::conditional
decreases-line::conditional l = 30 * (length l.tokens.now - l.at) + 23

abbrev pub decreases-line::tested : goal.decreases-line::tested
decreases-line::tested l = 30 * (length l.tokens.now - l.at)

abbrev pub decreases-line::unconditional : goal.decreases-line::unconditional
decreases-line::unconditional l = 30 * (length l.tokens.now - l.at) + 22

abbrev pub decreases-line::lambda : goal.decreases-line::lambda
decreases-line::lambda l = 30 * (length l.tokens.now - l.at)

abbrev pub decreases-line::branches : goal.decreases-line::branches
decreases-line::branches l = 30 * (length l.tokens.now - l.at) + 1

abbrev pub decreases-line::branch : goal.decreases-line::branch
decreases-line::branch l = 30 * (length l.tokens.now - l.at)

abbrev pub decreases-level::left : goal.decreases-level::left
decreases-level::left l = 30 * (length l.tokens.now - l.at) + (rank l.level + 1)

abbrev pub decreases-level::operand : goal.decreases-level::operand
decreases-level::operand l = 30 * (length l.tokens.now - l.at) + rank l.level

abbrev pub decreases-level::step : goal.decreases-level::step
decreases-level::step l = 30 * (length l.tokens.now - l.whole.end)

abbrev pub decreases-level::comparison : goal.decreases-level::comparison
decreases-level::comparison l = 30 * (length l.tokens.now - l.at) + 17

abbrev pub decreases-level::cons : goal.decreases-level::cons
decreases-level::cons l = 30 * (length l.tokens.now - l.at) + 16

abbrev pub decreases-level::negative : goal.decreases-level::negative
decreases-level::negative l = 30 * (length l.tokens.now - l.at) + 9

abbrev pub decreases-level::app : goal.decreases-level::app
decreases-level::app l = 30 * (length l.tokens.now - l.at) + 8

abbrev pub decreases-atom::head : goal.decreases-atom::head
decreases-atom::head l = 30 * (length l.tokens.now - l.at) + 7

abbrev pub decreases-atom::worded : goal.decreases-atom::worded
decreases-atom::worded l = 30 * (length l.tokens.now - l.at) + 1

abbrev pub decreases-atom::fold : goal.decreases-atom::fold
decreases-atom::fold l = 30 * (length l.tokens.now - l.at) + 1

abbrev pub decreases-atom::argument : goal.decreases-atom::argument
decreases-atom::argument l = 30 * (length l.tokens.now - l.at) + 6

abbrev pub decreases-atom::post : goal.decreases-atom::post
decreases-atom::post l = 30 * (length l.tokens.now - l.at) + 6

abbrev pub decreases-atom::base : goal.decreases-atom::base
decreases-atom::base l = 30 * (length l.tokens.now - l.at) + 5

abbrev pub decreases-atom::parenthesized : goal.decreases-atom::parenthesized
decreases-atom::parenthesized l = 30 * (length l.tokens.now - l.at)

abbrev pub decreases-markup::markup : goal.decreases-markup::markup
decreases-markup::markup l = 30 * (length l.tokens.now - l.at) + 4

abbrev pub decreases-markup::again : goal.decreases-markup::again
decreases-markup::again l = 30 * (length l.tokens.now - l.at) + 3

abbrev pub decreases-code::read_codes : goal.decreases-code::read_codes
decreases-code::read_codes l = 30 * (length l.tokens.now - l.from) + 2

abbrev pub decreases-code::code : goal.decreases-code::code
decreases-code::code l = 30 * (length l.tokens.now - l.from) + 1

abbrev pub decreases-code::quote : goal.decreases-code::quote
decreases-code::quote l = 30 * (length l.tokens.now - l.at) + 26

abbrev pub decreases-fields::fields : goal.decreases-fields::fields
decreases-fields::fields l = 30 * (length l.tokens.now - l.at) + 1

abbrev pub decreases-fields::field : goal.decreases-fields::field
decreases-fields::field l = 30 * (length l.tokens.now - l.at)

abbrev pub decreases-fields::let_vals : goal.decreases-fields::let_vals
decreases-fields::let_vals l = 30 * (length l.tokens.now - l.at) + 1

abbrev pub decreases-fields::let_val : goal.decreases-fields::let_val
decreases-fields::let_val l = 30 * (length l.tokens.now - l.at)

abbrev pub decreases-fields::let_in : goal.decreases-fields::let_in
decreases-fields::let_in l = 30 * (length l.tokens.now - l.at)

abbrev pub decreases-forms::formed : goal.decreases-forms::formed
decreases-forms::formed l = 30 * (length l.tokens.now - l.at) + 6

abbrev pub decreases-forms::cookie : goal.decreases-forms::cookie
decreases-forms::cookie l = 30 * (length l.tokens.now - l.at) + 1

abbrev pub decreases-forms::dml : goal.decreases-forms::dml
decreases-forms::dml l = 30 * (length l.tokens.now - l.at) + 5

abbrev pub decreases-forms::one_query : goal.decreases-forms::one_query
decreases-forms::one_query l = 30 * (length l.tokens.now - l.at) + 5

abbrev pub decreases-forms::query_x : goal.decreases-forms::query_x
decreases-forms::query_x l = 30 * (length l.tokens.now - l.at) + 5

abbrev pub decreases-tables::query : goal.decreases-tables::query
decreases-tables::query l = 30 * (length l.tokens.now - l.at) + 5

abbrev pub decreases-tables::query_again : goal.decreases-tables::query_again
decreases-tables::query_again l = 30 * (length l.tokens.now - l.at) + 4

abbrev pub decreases-tables::change : goal.decreases-tables::change
decreases-tables::change l = 30 * (length l.tokens.now - l.at) + 5

abbrev pub decreases-tables::change_again : goal.decreases-tables::change_again
decreases-tables::change_again l = 30 * (length l.tokens.now - l.at) + 4

abbrev pub decreases-tables::all_codes : goal.decreases-tables::all_codes
decreases-tables::all_codes l = 30 * (length l.tokens.now - l.from) + 3

abbrev pub invariant-level::left-steps : goal.invariant-level::left-steps
invariant-level::left-steps l = record {
  moves : Moves l.tokens l.at l.whole.end;
  group : Grouped l.depth (level_of l.level) l.tokens l.at l.initial.whole.end l.whole.end l.initial.whole.tree l.whole.tree;
  stops : Stops (member (operand_more (level_of l.level))) (drop l.whole.end l.tokens);
}

abbrev pub decreases-level::left-steps : goal.decreases-level::left-steps
decreases-level::left-steps l = length l.tokens - l.whole.end

abbrev pub invariant-level::cons-links : goal.invariant-level::cons-links
invariant-level::cons-links l = record {
  start : l.at ≤ l.begin;
  last : Moves l.tokens l.begin l.last.end;
  read : Read language l.depth (of_exp (e.left e.append)) (drop l.begin l.tokens) (drop l.last.end l.tokens) l.last.tree;
  chain : ConsChain l.depth l.tokens l.at l.begin l.before;
}

abbrev pub decreases-level::cons-links : goal.decreases-level::cons-links
decreases-level::cons-links l = length l.tokens - l.last.end

abbrev pub invariant-level::app-arguments : goal.invariant-level::app-arguments
invariant-level::app-arguments l = record {
  moves : Moves l.tokens l.at l.function.end;
  args : Applied l.depth l.tokens l.at l.initial.function.end l.function.end l.initial.function.tree l.function.tree;
}

abbrev pub decreases-level::app-arguments : goal.decreases-level::app-arguments
decreases-level::app-arguments l = length l.tokens - l.function.end

abbrev pub invariant-line::conditional-choices : goal.invariant-line::conditional-choices
invariant-line::conditional-choices l = record {
  start : l.at ≤ l.begin;
  chain : ChoiceChain l.depth l.tokens l.at l.begin l.before;
}

abbrev pub decreases-line::conditional-choices : goal.decreases-line::conditional-choices
decreases-line::conditional-choices l = length l.tokens - l.begin

abbrev pub invariant-line::branches-bars : goal.invariant-line::branches-bars
invariant-line::branches-bars l = record {
  moves : Moves l.tokens l.at l.list.end;
  branched : Branched l.depth l.tokens l.at l.list.end l.list.tree;
}

abbrev pub decreases-line::branches-bars : goal.decreases-line::branches-bars
decreases-line::branches-bars l = length l.tokens - l.list.end

abbrev pub invariant-fields::fields-commas : goal.invariant-fields::fields-commas
invariant-fields::fields-commas l = record {
  moves : Moves l.tokens l.at l.list.end;
  leads : Leads language l.depth (of_exp e.fields) (of_exp e.fields_tail) (drop l.at l.tokens) (drop l.list.end l.tokens) (λ ys. l.list.tree ++ ys);
}

abbrev pub decreases-fields::fields-commas : goal.decreases-fields::fields-commas
decreases-fields::fields-commas l = length l.tokens - l.list.end

abbrev pub invariant-fields::let_vals-vals : goal.invariant-fields::let_vals-vals
invariant-fields::let_vals-vals l = record {
  moves : Moves l.tokens l.at l.list.end;
  vals : Vals l.depth l.tokens l.at l.list.end l.list.tree;
}

abbrev pub decreases-fields::let_vals-vals : goal.decreases-fields::let_vals-vals
decreases-fields::let_vals-vals l = length l.tokens - l.list.end

abbrev pub invariant-code::read_codes-codes : goal.invariant-code::read_codes-codes
invariant-code::read_codes-codes l = Reading l.tokens l.less l.ranges l.left l.made

abbrev pub decreases-code::read_codes-codes : goal.decreases-code::read_codes-codes
decreases-code::read_codes-codes l = length l.left
