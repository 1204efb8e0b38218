use Rattle.ur_parse_rules.proofs.Steps.{passed}
use Rattle.ur_parse_rules.proofs.Places.{mark_moves, moves_on}
use Rattle.ur_parse_exp_parts.proofs.Dotted.{dots_first, dots_more, dots_refused, dots_done}
use Rattle.ur_parse_exp_parts.proofs.dots.read_dots.Goals as goal

pub dots-init : goal.dots-init
dots-init c = record { moves = c.requires; dotted = dots_first }

pub returns-in_err-name-clause-refused : goal.returns-in_err-name-clause-refused
returns-in_err-name-clause-refused c = passed _ _ c.from_residual-in_err-name.ensures.1 c.in_err-name.ensures.refused (λ r h n. dots_refused c.dots.invariant.dotted (c.sees.ensures.yes c.dots-test.true) (h n))

pub dots-preserved : goal.dots-preserved
dots-preserved c = let e = c.in_ok-whole.ensures.found in let e0 = e.0 in let e1 = e.1 in let s = c.span-covered.ensures in let m = c.dots.invariant.moves in let o = moves_on (mark_moves (c.sees.ensures.yes c.dots-test.true)) c.in_ok-name.ensures.moves in
    let t = moves_on m o in let lt = t.on in rw (e0, e1, s) (record {
      moves = t;
      dotted = dots_more c.requires lt c.dots.invariant.dotted o (c.sees.ensures.yes c.dots-test.true) c.in_ok-name.ensures.found;
    })

pub returns-clause-found : goal.returns-clause-found
returns-clause-found c = dots_done c.requires c.dots.invariant.moves c.dots.invariant.dotted (c.sees.ensures.no c.dots-test.false)
