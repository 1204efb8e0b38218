use Rattle.std.proofs.Common.{sym, ◌∙◌, arith}
use Rattle.ur_lex.proofs.Derivations.{reached_as, reached_start, reached_end, reached_open}
use Rattle.ur_lex.proofs.Cutting.{gap_step, token_step, nothing_step}
use Rattle.ur_lex.proofs.lexer.cut.Goals as goal

pub loop-lexer-init : goal.loop-lexer-init
loop-lexer-init c = let e = c.new-lexer.ensures in record { within = omega arith; reached = reached_as e.tokens e.modes e.at (reached_start c.args.file c.args.text.now) }

pub loop-lexer-preserved-in-Gap : goal.loop-lexer-preserved-in-Gap
loop-lexer-preserved-in-Gap c =
    let x = c.loop-lexer.lexer in
    let s = gap_step x.modes x.at c.args.text.now c.in_ok-len.field-0 c.in-Gap.len c.loop-lexer.invariant.reached c.inner.ensures c.loop-lexer.invariant.within c.in-Gap.is c.in_ok-len.ensures in
    record { within = s.0; reached = s.2 }

pub loop-lexer-preserved : goal.loop-lexer-preserved
loop-lexer-preserved c =
    let x = c.loop-lexer.lexer in
    let text = c.args.text.now in
    let t = c.in_ok-take-in-Token.ensures in
    let s = token_step x.modes x.at text c.in_ok-len.field-0 c.in-Token.found c.loop-lexer.invariant.reached c.inner.ensures c.loop-lexer.invariant.within c.in-Token.is c.in_ok-len.ensures in
    record { within = omega (arith, s.0, t.at); reached = reached_as t.tokens t.modes t.at s.2 }

pub returns-in-Nothing-clause-refused : goal.returns-in-Nothing-clause-refused
returns-in-Nothing-clause-refused c =
    let x = c.loop-lexer.lexer in
    (c.refused.ensures, nothing_step x.modes x.at c.args.text.now c.in_ok-len.field-0 c.loop-lexer.invariant.reached c.inner.ensures (omega arith) c.in-Nothing.is c.in_ok-len.ensures)

pub returns-then-is_code-clause-tokens : goal.returns-then-is_code-clause-tokens
returns-then-is_code-clause-tokens c = reached_end c.loop-lexer.invariant.reached (omega arith) (sym c.is_code.ensures ∙ c.if-is_code.true)

pub returns-else-is_code-clause-refused : goal.returns-else-is_code-clause-refused
returns-else-is_code-clause-refused c = (c.refused-else-is_code.ensures, reached_open c.loop-lexer.invariant.reached (omega arith) (sym c.is_code.ensures ∙ c.if-is_code.false))
