use Rattle.ur_lex.proofs.Found.{code_only, other_start}
use Rattle.ur_lex.proofs.front.code_token.Goals as goal

pub mark-requires-clause-only : goal.mark-requires-clause-only
mark-requires-clause-only c = code_only c.args.bytes.now c.requires.some
    (other_start _ c.byte_at-first.result c.is_small.result c.is_capital.result c.is_digit.result c.byte_at-first.ensures c.is_small.ensures c.if-is_small.false c.is_capital.ensures c.if-is_capital.false c.if-first-eq95.false c.is_digit.ensures c.if-is_digit.false c.if-first-eq34.false c.if-first-eq39.false)
