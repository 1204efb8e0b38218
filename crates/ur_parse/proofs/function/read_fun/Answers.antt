use Rattle.ur_parse_rules.proofs.Steps.{passed}
use Rattle.ur_parse_rules.proofs.Places.{mark_moves, moves_on}
use Rattle.ur_parse.proofs.Functions.{fun_definition, fun_first, fun_refused, fun_more, fun_done}
use Rattle.ur_parse.proofs.function.read_fun.Goals as goal

pub returns-in_err-first-clause-refused : goal.returns-in_err-first-clause-refused
returns-in_err-first-clause-refused c = passed _ _ c.from_residual.ensures.1 c.in_err-first.ensures.refused (λ r h. fun_definition c.requires h)

pub ands-init : goal.ands-init
ands-init c = let e = c.new-list.ensures in let p = c.in_ok-pushed.ensures.found in
    rw (p, e) (record { moves = moves_on (mark_moves c.requires) c.in_ok-first.ensures.moves; read = fun_first c.requires c.in_ok-first.first.end c.in_ok-first.ensures.found })

pub returns-in_err-next-clause-refused : goal.returns-in_err-next-clause-refused
returns-in_err-next-clause-refused c = passed _ _ c.from_residual-in_err-next.ensures.1 c.in_err-next.ensures.refused (λ r h. fun_refused c.ands.invariant.read (c.sees.ensures.yes c.ands-test.true) h)

pub ands-preserved : goal.ands-preserved
ands-preserved c = let p = c.in_ok-pushed-2.ensures.found in rw p (record {
  moves = moves_on c.ands.invariant.moves (moves_on (mark_moves (c.sees.ensures.yes c.ands-test.true)) c.in_ok-next.ensures.moves);
  read = fun_more c.ands.invariant.read (c.sees.ensures.yes c.ands-test.true) c.in_ok-next.next.end c.in_ok-next.ensures.found;
})

pub returns-clause-moves : goal.returns-clause-moves
returns-clause-moves c = let f = c.functions_of.ensures.end in rw f c.ands.invariant.moves

pub returns-clause-found : goal.returns-clause-found
returns-clause-found c = let e = c.functions_of.ensures.tree in let f = c.functions_of.ensures.end in let s = c.span-covered.ensures in
    rw (e, f, s) (fun_done c.ands.invariant.read (c.sees.ensures.no c.ands-test.false) c.ands.invariant.moves)
