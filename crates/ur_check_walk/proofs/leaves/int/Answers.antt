use Rattle.std.proofs.Common.{ap, sym, ◌∙◌, w64, rules}
use Rattle.std.proofs.lemmas.Int.{to_z_pos}
use Rattle.ur_rows.specs.declared.normal.NormalType.TheVariants as ty
use Rattle.ur_tree.specs.declared.exp.Exp.TheVariants as exp
use Rattle.ur_typed.specs.Rules.{gives}
use Rattle.ur_check_walk.proofs.leaves.int.Goals as goal

pub returns-then-n-lt9223372036854775808 : goal.returns-then-n-lt9223372036854775808
returns-then-n-lt9223372036854775808 c = λ st. ap (λ z. gives ty.Int (exp.Int z) st) (sym (to_z_pos w64 c.args.n (search rules))) ∙ c.in_ok-made.ensures st
