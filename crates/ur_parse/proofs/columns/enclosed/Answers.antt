use Rattle.ur_parse_rules.proofs.Steps.{passed}
use Rattle.ur_parse_rules.proofs.Places.{mark_moves, name_moves, moves_on}
use Rattle.ur_parse.proofs.Listed.{enclosed_missing, enclosed_first, enclosed_refused, enclosed_open, enclosed_more, enclosed_done}
use Rattle.ur_parse.proofs.columns.enclosed.Goals as goal

pub returns-in_err-name-clause-refused : goal.returns-in_err-name-clause-refused
returns-in_err-name-clause-refused c = passed _ _ c.from_residual.ensures.1 c.in_err-name.ensures.refused (λ r h n. enclosed_missing c.requires h)

pub commas-init : goal.commas-init
commas-init c = let e = c.new-names.ensures in let p = c.in_ok-pushed.ensures.found in
    rw (p, e) (record { moves = moves_on (mark_moves c.requires) (name_moves c.in_ok-name.ensures.found); read = λ n. enclosed_first c.requires c.in_ok-name.ensures.found })

pub returns-in_err-name-2-clause-refused : goal.returns-in_err-name-2-clause-refused
returns-in_err-name-2-clause-refused c = passed _ _ c.from_residual-in_err-name-2.ensures.1 c.in_err-name-2.ensures.refused (λ r h n. enclosed_refused (c.commas.invariant.read n) (c.sees.ensures.yes c.commas-test.true) h)

pub commas-preserved : goal.commas-preserved
commas-preserved c = let p = c.in_ok-pushed-2.ensures.found in rw p (record {
  moves = moves_on c.commas.invariant.moves (moves_on (mark_moves (c.sees.ensures.yes c.commas-test.true)) (name_moves c.in_ok-name-2.ensures.found));
  read = λ n. enclosed_more (c.commas.invariant.read n) (c.sees.ensures.yes c.commas-test.true) c.in_ok-name-2.ensures.found;
})

pub returns-in_err-close-clause-refused : goal.returns-in_err-close-clause-refused
returns-in_err-close-clause-refused c = passed _ _ c.from_residual-in_err-close.ensures.1 c.in_err-close.ensures.refused (λ r h n. enclosed_open (c.commas.invariant.read n) (c.sees.ensures.no c.commas-test.false) h)

pub returns-clause-moves : goal.returns-clause-moves
returns-clause-moves c = moves_on c.commas.invariant.moves (mark_moves c.in_ok-close.ensures.found)

pub returns-clause-found : goal.returns-clause-found
returns-clause-found c = λ n. let s = c.span-last.ensures in rw s (enclosed_done (c.commas.invariant.read n) c.in_ok-close.ensures.found)
