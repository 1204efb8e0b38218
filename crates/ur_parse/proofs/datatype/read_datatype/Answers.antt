use Rattle.ur_parse_rules.proofs.Steps.{passed}
use Rattle.ur_parse_rules.proofs.Places.{mark_moves, name_moves, moves_on}
use Rattle.ur_parse.proofs.Variants.{datatype_name, datatype_mark, datatype_variant, datatype_first, datatype_refused, datatype_more, datatype_done}
use Rattle.ur_parse.proofs.datatype.read_datatype.Goals as goal

pub returns-in_err-name-clause-refused : goal.returns-in_err-name-clause-refused
returns-in_err-name-clause-refused c = passed _ _ c.from_residual.ensures.1 c.in_err-name.ensures.refused (λ r h. datatype_name c.requires h)

pub returns-in_err-begin-clause-refused : goal.returns-in_err-begin-clause-refused
returns-in_err-begin-clause-refused c = passed _ _ c.from_residual-in_err-begin.ensures.1 c.in_err-begin.ensures.refused (λ r h. datatype_mark c.requires c.in_ok-name.ensures.found h)

pub returns-in_err-first-clause-refused : goal.returns-in_err-first-clause-refused
returns-in_err-first-clause-refused c = passed _ _ c.from_residual-in_err-first.ensures.1 c.in_err-first.ensures.refused (λ r h. datatype_variant c.requires c.in_ok-name.ensures.found c.in_ok-begin.ensures.found h)

pub bars-init : goal.bars-init
bars-init c = let e = c.new-variants.ensures in let p = c.in_ok-pushed.ensures.found in rw (p, e) (record {
  moves = moves_on (mark_moves c.requires) (moves_on (name_moves c.in_ok-name.ensures.found) (moves_on (mark_moves c.in_ok-begin.ensures.found) c.in_ok-first.ensures.moves));
  read = λ x b. datatype_first c.requires b c.in_ok-begin.ensures.found c.in_ok-first.first.end c.in_ok-first.ensures.found;
})

pub returns-in_err-next-clause-refused : goal.returns-in_err-next-clause-refused
returns-in_err-next-clause-refused c = passed _ _ c.from_residual-in_err-next.ensures.1 c.in_err-next.ensures.refused (λ r h. datatype_refused (c.bars.invariant.read _ c.in_ok-name.ensures.found) (c.sees.ensures.yes c.bars-test.true) h)

pub bars-preserved : goal.bars-preserved
bars-preserved c = let p = c.in_ok-pushed-2.ensures.found in rw p (record {
  moves = moves_on c.bars.invariant.moves (moves_on (mark_moves (c.sees.ensures.yes c.bars-test.true)) c.in_ok-next.ensures.moves);
  read = λ x b. datatype_more (c.bars.invariant.read x b) (c.sees.ensures.yes c.bars-test.true) c.in_ok-next.next.end c.in_ok-next.ensures.found;
})

pub returns-clause-moves : goal.returns-clause-moves
returns-clause-moves c = let f = c.datatype_of.ensures.end in rw f c.bars.invariant.moves

pub returns-clause-found : goal.returns-clause-found
returns-clause-found c = let e = c.datatype_of.ensures.tree in let f = c.datatype_of.ensures.end in let s = c.span-covered.ensures in rw (e, f, s) (datatype_done (c.bars.invariant.read _ c.in_ok-name.ensures.found) (c.sees.ensures.no c.bars-test.false) c.bars.invariant.moves)
