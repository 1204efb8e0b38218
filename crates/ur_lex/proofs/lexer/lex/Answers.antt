use Rattle.std.proofs.Common.{sym, subst}
use Rattle.ur_lex.specs.Lexing.{AreSlices}
use Rattle.ur_lex.proofs.Slices.{slices}
use Rattle.ur_lex.proofs.lexer.lex.Goals as goal

pub returns-clause-slices : goal.returns-clause-slices
returns-clause-slices c = subst (AreSlices c.args.text.now) (sym c.new.ensures) (slices c.args.text.now c.in_ok-cut.ensures.tokens)
