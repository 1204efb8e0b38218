use Rattle.std.proofs.Common.{◌∙◌, sym, arith}
use Rattle.ur_lex.proofs.Symbols.{none_more, no_symbol, longest_symbol}
use Rattle.ur_lex.proofs.spelling.symbol.Goals as goal

pub returns-then-is_symbol : goal.returns-then-is_symbol
returns-then-is_symbol c = longest_symbol c.args.mode c.args.bytes.now c.loop-symbol.symbol-index _ c.loop-symbol.invariant (omega arith) (sym c.is_symbol.ensures ∙ c.if-is_symbol.true)

pub loop-symbol-preserved : goal.loop-symbol-preserved
loop-symbol-preserved c = none_more c.args.mode c.args.bytes.now c.loop-symbol.symbol-index _ c.loop-symbol.invariant (omega arith) (sym c.is_symbol.ensures ∙ c.if-is_symbol.false)

pub returns : goal.returns
returns c = no_symbol c.args.mode c.args.bytes.now c.loop-symbol.symbol-index c.loop-symbol.invariant (omega arith)
