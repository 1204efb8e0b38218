use Rattle.ur_parse_rules.proofs.Steps.{passed}
use Rattle.ur_parse_rules.proofs.Places.{mark_moves, name_moves, moves_on}
use Rattle.ur_parse.proofs.Listed.{list_missing, list_first, list_refused, list_more, list_done}
use Rattle.ur_parse.proofs.columns.listed.Goals as goal

pub returns-in_err-name-clause-refused : goal.returns-in_err-name-clause-refused
returns-in_err-name-clause-refused c = passed _ _ c.from_residual.ensures.1 c.in_err-name.ensures.refused (λ r h n. list_missing c.requires h)

pub commas-init : goal.commas-init
commas-init c = let e = c.new-names.ensures in let p = c.in_ok-pushed.ensures.found in let s = c.span-last.ensures in
    rw (p, e, s) (record { moves = name_moves c.in_ok-name.ensures.found; read = λ n. list_first c.in_ok-name.ensures.found })

pub returns-in_err-name-2-clause-refused : goal.returns-in_err-name-2-clause-refused
returns-in_err-name-2-clause-refused c = let y = c.sees_column.ensures.yes c.commas-test.true in passed _ _ c.from_residual-in_err-name-2.ensures.1 c.in_err-name-2.ensures.refused (λ r h n. list_refused (c.commas.invariant.read n) y.0 y.1 h)

pub commas-preserved : goal.commas-preserved
commas-preserved c = let y = c.sees_column.ensures.yes c.commas-test.true in let p = c.in_ok-pushed-2.ensures.found in let s = c.span-last-in-commas.ensures in rw (p, s) (record {
  moves = moves_on c.commas.invariant.moves (moves_on (mark_moves y.0) (name_moves c.in_ok-name-2.ensures.found));
  read = λ n. list_more (c.commas.invariant.read n) y.0 c.in_ok-name-2.ensures.found;
})

pub returns-clause-found : goal.returns-clause-found
returns-clause-found c = λ n. list_done (c.commas.invariant.read n) (c.sees_column.ensures.no c.commas-test.false)
