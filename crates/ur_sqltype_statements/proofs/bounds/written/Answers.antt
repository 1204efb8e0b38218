use Rattle.std.proofs.Common.{◌∙◌, subst, rules}
use Rattle.std.specs.Prelude.{codes}
use Rattle.ur_base.specs.Stopping.{Says}
use Rattle.ur_sqltype.specs.SqltypeFaults.{too_great}
use Rattle.ur_sqltype_statements.proofs.bounds.written.Goals as goal

pub returns-clause-refused : goal.returns-clause-refused
returns-clause-refused c = too_great c.args.n (search rules) (subst (λ z. Says c.in_ok-misfit.field-0 12 z (codes "int")) (c.as_slice.ensures ∙ c.in_ok-left.ensures) c.in_ok-misfit.ensures)
