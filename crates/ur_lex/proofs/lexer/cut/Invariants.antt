use Rattle.std.proofs.Common.{◌-◌, ◌≤◌, length}
use Rattle.ur_lex.proofs.Derivations.{Reached}
use Rattle.ur_lex.proofs.lexer.cut.Given as goal

abbrev pub invariant-loop-lexer : goal.invariant-loop-lexer
invariant-loop-lexer l = record { within : l.lexer.at ≤ length l.text; reached : Reached l.file l.text l.lexer.tokens l.lexer.modes l.lexer.at }

abbrev pub decreases-loop-lexer : goal.decreases-loop-lexer
decreases-loop-lexer l = length l.initial.text - l.lexer.at
