use Rattle.std.proofs.Common.{◌∙◌, sym}
use Rattle.ur_parse_rules.proofs.Steps.{passed, made}
use Rattle.ur_parse_rules.proofs.Places.{mark_moves, moves_on}
use Rattle.ur_parse_exp_parts.proofs.Levels.{gone_refused, gone_followed, gone_read}
use Rattle.ur_parse_exp_parts.proofs.gone.read_gone.Goals as goal

pub returns-in_err-gone-clause-refused : goal.returns-in_err-gone-clause-refused
returns-in_err-gone-clause-refused c = passed _ _ c.from_residual.ensures.1 c.in_err-gone.ensures.refused (λ r h n. gone_refused n c.args.tokens.now c.args.whole.end c.requires.signed (h n))

pub returns-then-sees_more-clause-refused : goal.returns-then-sees_more-clause-refused
returns-then-sees_more-clause-refused c = made _ c.unexpected.ensures (λ r s n. gone_followed n c.args.tokens.now c.args.whole.end c.requires.signed _ (c.in_ok-gone.ensures.found n) s (sym c.sees_more.ensures ∙ c.if-sees_more.true))

pub returns-clause-found : goal.returns-clause-found
returns-clause-found c = let e0 = c.in_ok-made.ensures.found.0 in let e1 = c.in_ok-made.ensures.found.1 in let s = c.span-covered.ensures in let m = moves_on (mark_moves c.requires.signed) c.in_ok-gone.ensures.moves in
    rw (e0, e1, s) (record { gone = λ n. gone_read n c.args.tokens.now c.args.whole.end c.requires.signed c.in_ok-gone.end (c.in_ok-gone.ensures.found n) c.args.from m (sym c.sees_more.ensures ∙ c.if-sees_more.false) })
