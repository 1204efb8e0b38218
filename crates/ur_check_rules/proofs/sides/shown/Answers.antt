use Rattle.std.proofs.Common.{refl}
use Rattle.ur_rows.specs.declared.normal.NormalType.TheVariants as ty
use Rattle.ur_tree.specs.declared.exp.Unary.TheVariants as unary
use Rattle.ur_tree.specs.Make as make
use Rattle.ur_check_rules.proofs.Sided.{answer-is}
use Rattle.ur_check_rules.proofs.sides.shown.Goals as goal

pub returns : goal.returns
returns c = answer-is (record { of = ty.Str; exp = c.in_ok-exp.exp }) ty.Str (make.unary unary.Show c.args.out.exp) refl c.in_ok-exp.ensures
