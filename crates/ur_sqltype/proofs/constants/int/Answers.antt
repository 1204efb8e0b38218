use Rattle.std.proofs.Common.{◌∙◌, ap, rules}
use Rattle.std.proofs.lemmas.Int.{to_z_pos}
use mir.Syntax.{w64}
use Rattle.ur_values.specs.declared.value.Value.TheVariants as value
use Rattle.ur_sql.specs.declared.scalar.Scalar.TheVariants as scalar
use Rattle.ur_sqltype.proofs.Leaves.{int-kinded, int-fault}
use Rattle.ur_sqltype.proofs.constants.int.Goals as goal

pub returns-then-n-lt9223372036854775808-clause-kinded : goal.returns-then-n-lt9223372036854775808-clause-kinded
returns-then-n-lt9223372036854775808-clause-kinded c = int-kinded c.args.within.now c.args.n c.in_ok-made.made (search rules) (c.in_ok-made.ensures ∙ ap (λ z. scalar.Constant (value.Int z)) (to_z_pos w64 c.args.n (search rules)))

pub returns-clause-refused : goal.returns-clause-refused
returns-clause-refused c = int-fault c.args.within.now c.args.n c.as_slice.result.now c.in_ok-left.left c.in_ok-misfit.field-0 (search rules) c.as_slice.ensures c.in_ok-left.ensures c.in_ok-misfit.ensures
