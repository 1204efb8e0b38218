use Rattle.std.proofs.Common.{arith, sym, ◌∙◌}
use Rattle.ur_parse_rules.proofs.Steps.{passed}
use Rattle.ur_parse_embed_code.specs.Brackets.{unclosed}
use Rattle.ur_parse_embed_code.proofs.Codes.{ahead_here, ahead_refused, ahead_more, ahead_done, paren_read, bracket_read, brace_read, plain_read, paren_refused, bracket_refused, brace_refused, piece_missing}
use Rattle.ur_parse_embed_code.proofs.code.+code.Goals as goal

-- ---- pieces

pub pieces-pieces-init : goal.pieces-pieces-init
pieces-pieces-init t c = record { start = omega arith; within = λ h. h; ahead = λ n. ahead_here c.args.tokens.now c.args.at }

pub pieces-returns-in_err-end-clause-refused : goal.pieces-returns-in_err-end-clause-refused
pieces-returns-in_err-end-clause-refused t c = passed _ _ c.from_residual.ensures.1 c.in_err-end.ensures.refused (λ r h n. ahead_refused (c.pieces.invariant.ahead n) (sym c.goes_on.ensures ∙ c.pieces-test.true) (h n))

pub pieces-pieces-preserved : goal.pieces-pieces-preserved
pieces-pieces-preserved t c = let s = c.pieces.invariant.start in let m = c.in_ok-end.ensures.moves in let o = m.on in record {
  start = omega (arith, s, o);
  within = λ h. m.within;
  ahead = λ n. ahead_more (c.pieces.invariant.ahead n) c.in_ok-end.end (sym c.goes_on.ensures ∙ c.pieces-test.true) (c.in_ok-end.ensures.found n);
}

pub pieces-returns-clause-found : goal.pieces-returns-clause-found
pieces-returns-clause-found t c = λ n. ahead_done (c.pieces.invariant.ahead n) (sym c.goes_on.ensures ∙ c.pieces-test.false) c.pieces.invariant.start

-- ---- piece

pub piece-returns-in_err-end-clause-refused : goal.piece-returns-in_err-end-clause-refused
piece-returns-in_err-end-clause-refused t c = passed _ _ c.from_residual.ensures.1 c.in_err-end.ensures.refused (λ r h n. paren_refused (c.sees.ensures.yes c.if-sees.true) h)

pub piece-returns-in_err-end-2-clause-refused : goal.piece-returns-in_err-end-2-clause-refused
piece-returns-in_err-end-2-clause-refused t c = passed _ _ c.from_residual-in_err-end-2.ensures.1 c.in_err-end-2.ensures.refused (λ r h n. bracket_refused (c.sees-else-sees.ensures.yes c.if-sees-2.true) h)

pub piece-returns-in_err-end-3-clause-refused : goal.piece-returns-in_err-end-3-clause-refused
piece-returns-in_err-end-3-clause-refused t c = passed _ _ c.from_residual-in_err-end-3.ensures.1 c.in_err-end-3.ensures.refused (λ r h n. brace_refused (c.sees-else-sees-2.ensures.yes c.if-sees-3.true) h)

pub piece-returns-in_err-end-4-clause-refused : goal.piece-returns-in_err-end-4-clause-refused
piece-returns-in_err-end-4-clause-refused t c = passed _ _ c.from_residual-in_err-end-4.ensures.1 c.in_err-end-4.ensures.refused
    (λ r h n. piece_missing (c.sees.ensures.no c.if-sees.false) (c.sees-else-sees.ensures.no c.if-sees-2.false) (c.sees-else-sees-2.ensures.no c.if-sees-3.false) h)

pub piece-returns-in_ok-end-clause-found : goal.piece-returns-in_ok-end-clause-found
piece-returns-in_ok-end-clause-found t c = let m = c.in_ok-end.ensures.moves in let o = m.on in λ n. paren_read (record { on = omega (arith, o); within = m.within }) (c.sees.ensures.yes c.if-sees.true) c.in_ok-end.ensures.found

pub piece-returns-in_ok-end-2-clause-found : goal.piece-returns-in_ok-end-2-clause-found
piece-returns-in_ok-end-2-clause-found t c = let m = c.in_ok-end-2.ensures.moves in let o = m.on in λ n. bracket_read (record { on = omega (arith, o); within = m.within }) (c.sees-else-sees.ensures.yes c.if-sees-2.true) c.in_ok-end-2.ensures.found

pub piece-returns-in_ok-end-3-clause-found : goal.piece-returns-in_ok-end-3-clause-found
piece-returns-in_ok-end-3-clause-found t c = let m = c.in_ok-end-3.ensures.moves in let o = m.on in λ n. brace_read (record { on = omega (arith, o); within = m.within }) (c.sees-else-sees-2.ensures.yes c.if-sees-3.true) c.in_ok-end-3.ensures.found

pub piece-returns-in_ok-end-4-clause-found : goal.piece-returns-in_ok-end-4-clause-found
piece-returns-in_ok-end-4-clause-found t c = let a = c.in_ok-end-4.ensures.found in let x = a.next in let y = a.at.below in λ n. plain_read (record { on = omega (arith, x); within = omega (arith, x, y) }) a

-- ---- bracketed

pub bracketed-returns-in_err-end-clause-refused : goal.bracketed-returns-in_err-end-clause-refused
bracketed-returns-in_err-end-clause-refused t c = passed _ _ c.from_residual-in_err-end.ensures.1 c.in_err-end.ensures.refused (λ r h. unclosed c.in_ok-middle.middle _ c.in_ok-middle.ensures.found h)

pub bracketed-returns-clause-found : goal.bracketed-returns-clause-found
bracketed-returns-clause-found t c = record { middle = c.in_ok-middle.middle; inner = _; read = c.in_ok-middle.ensures.found; closed = c.in_ok-end.ensures.found }
