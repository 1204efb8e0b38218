use Rattle.ur_parse_rules.proofs.Steps.{passed}
use Rattle.ur_parse_rules.proofs.Places.{mark_moves, moves_on}
use Rattle.ur_parse.proofs.Constraints.{columns_more}
use Rattle.ur_parse.proofs.keys.key_columns.Goals as goal

pub commas-init : goal.commas-init
commas-init c = let e = c.new-constraints.ensures in rw e (record { moves = c.in_ok-columns.ensures.moves; read = λ n names h. h })

pub returns-in_err-name-clause-refused : goal.returns-in_err-name-clause-refused
returns-in_err-name-clause-refused c = passed _ _ c.from_residual-in_err-name.ensures.1 c.in_err-name.ensures.refused (λ r h n. (c.commas.invariant.read n _ (c.in_ok-columns.ensures.found n)).headless _ r (c.sees.ensures.yes c.commas-test.true) (h n))

pub returns-in_err-next-clause-refused : goal.returns-in_err-next-clause-refused
returns-in_err-next-clause-refused c = passed _ _ c.from_residual-in_err-next.ensures.1 c.in_err-next.ensures.refused (λ r h n. (c.commas.invariant.read n _ (c.in_ok-columns.ensures.found n)).empty _ _ _ r (c.sees.ensures.yes c.commas-test.true) (c.in_ok-name.ensures.found n) (h n))

pub commas-preserved : goal.commas-preserved
commas-preserved c = let p = c.in_ok-pushed.ensures.found in let k = c.constraint.ensures in let s = c.span-head.ensures in rw (p, k, s) (record {
  moves = moves_on c.commas.invariant.moves (moves_on (mark_moves (c.sees.ensures.yes c.commas-test.true)) (moves_on c.in_ok-name.ensures.moves c.in_ok-next.ensures.moves));
  read = λ n names h. columns_more _ _ _ (c.commas.invariant.read n names h) (c.sees.ensures.yes c.commas-test.true) (c.in_ok-name.ensures.found n) (c.in_ok-next.ensures.found n);
})

pub returns-clause-found : goal.returns-clause-found
returns-clause-found c = λ n. (c.commas.invariant.read n _ (c.in_ok-columns.ensures.found n)).alone (c.sees.ensures.no c.commas-test.false)
