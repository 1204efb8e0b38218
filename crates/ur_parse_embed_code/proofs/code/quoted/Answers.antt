use Rattle.std.proofs.Common.{arith, sym, ◌∙◌}
use Rattle.ur_parse_rules.proofs.Steps.{passed, made}
use Rattle.ur_parse_embed_code.proofs.Codes.{quote_first, quote_others, quote_ill, quote_read}
use Rattle.ur_parse_embed_code.proofs.code.quoted.Goals as goal

pub returns-in_err-first-clause-refused : goal.returns-in_err-first-clause-refused
returns-in_err-first-clause-refused c = passed _ _ c.from_residual.ensures.1 c.in_err-first.ensures.refused (λ r h n. quote_first c.args.tokens.now c.args.at (h n))

pub returns-in_err-end-clause-refused : goal.returns-in_err-end-clause-refused
returns-in_err-end-clause-refused c = passed _ _ c.from_residual-in_err-end.ensures.1 c.in_err-end.ensures.refused (λ r h n. quote_others c.args.tokens.now c.args.at c.in_ok-first.first (c.in_ok-first.ensures.found n) (h n))

pub returns-then-not-well-clause-refused : goal.returns-then-not-well-clause-refused
returns-then-not-well-clause-refused c = let m = c.in_ok-first.ensures.moves.on in made _ c.unexpected.ensures
    (λ r s n. quote_ill c.args.tokens.now c.args.at c.in_ok-first.first c.in_ok-end.end (omega (arith, m)) c.in_ok-end.ensures.on (c.in_ok-first.ensures.found n) (c.in_ok-end.ensures.found n) s (sym c.well.ensures ∙ c.if-not-well.true))

pub returns-clause-found : goal.returns-clause-found
returns-clause-found c = let m = c.in_ok-first.ensures.moves.on in
    λ n. quote_read c.args.tokens.now c.args.at c.in_ok-first.first c.in_ok-end.end (omega (arith, m)) c.in_ok-end.ensures.on (c.in_ok-first.ensures.found n) (c.in_ok-end.ensures.found n) (sym c.well.ensures ∙ c.if-not-well.false)
