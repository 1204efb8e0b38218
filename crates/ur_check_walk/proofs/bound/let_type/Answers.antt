use Rattle.std.proofs.Common.{sym, ◌∙◌}
use Rattle.ur_check_scopes.proofs.Exits.{refused-exit}
use Rattle.ur_check_walk.proofs.Vals.{type-broken, no-value}
use Rattle.ur_check_walk.proofs.bound.let_type.Goals as goal

pub returns-in_err-of-clause-refused : goal.returns-in_err-of-clause-refused
returns-in_err-of-clause-refused c = refused-exit c.from_residual.result c.in_err-of.field-0.0 c.from_residual.ensures.1 (type-broken c.args.around.now c.args.val.now) c.in_err-of.ensures.refused

pub returns-clause-refused : goal.returns-clause-refused
returns-clause-refused c = no-value c.args.around.now c.args.val.now c.in_ok-of.of c.no_value.result c.in_ok-of.ensures.typed (sym c.is_value_type.ensures ∙ c.if-is_value_type.false) c.no_value.ensures
