use Rattle.ur_lex.proofs.Symbols.{NoneBefore}
use Rattle.ur_lex.proofs.spelling.symbol.Given as goal

abbrev pub invariant-loop-symbol : goal.invariant-loop-symbol
invariant-loop-symbol l = NoneBefore l.mode l.bytes l.symbol-index
