use Rattle.std.proofs.Common.{sym, ◌∙◌}
use Rattle.ur_parse_rules.proofs.Steps.{passed, made}
use Rattle.ur_parse_con.proofs.Binders.{argument_none, argument_refused, argument_twice, argument_read}
use Rattle.ur_parse_con.proofs.behind.argument.Goals as goal

pub returns-in_err-binder-clause-refused : goal.returns-in_err-binder-clause-refused
returns-in_err-binder-clause-refused c = passed _ _ c.from_residual.ensures.1 c.in_err-binder.ensures.refused (λ r h n. argument_refused c.args.tokens.now c.args.at (sym c.sees_binder.ensures ∙ c.if-sees_binder.true) (h n))

pub returns-then-sees_binder-2-clause-refused : goal.returns-then-sees_binder-2-clause-refused
returns-then-sees_binder-2-clause-refused c = made _ c.unexpected.ensures (λ r s n. argument_twice c.args.tokens.now c.args.at (sym c.sees_binder.ensures ∙ c.if-sees_binder.true) _ (c.in_ok-binder.ensures.found n) s (sym c.sees_binder-then-sees_binder.ensures ∙ c.if-sees_binder-2.true))

pub returns-else-sees_binder-2-clause-found : goal.returns-else-sees_binder-2-clause-found
returns-else-sees_binder-2-clause-found c = λ n. argument_read c.args.tokens.now c.args.at (sym c.sees_binder.ensures ∙ c.if-sees_binder.true) _ (c.in_ok-binder.ensures.found n) (sym c.sees_binder-then-sees_binder.ensures ∙ c.if-sees_binder-2.false)

pub returns-else-sees_binder-clause-found : goal.returns-else-sees_binder-clause-found
returns-else-sees_binder-clause-found c = λ n. argument_none c.args.tokens.now c.args.at (sym c.sees_binder.ensures ∙ c.if-sees_binder.false)
