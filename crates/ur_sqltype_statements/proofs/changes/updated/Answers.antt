use Rattle.std.proofs.Common.{◌∙◌, sym, ap, map, nat_eq}
use Rattle.ur_sqltype.specs.Lists.{repeated}
use Rattle.ur_sqltype.specs.Change.{set_number}
use Rattle.ur_sqltype.specs.SqltypeFaults.{set_twice}
use Rattle.ur_sqltype_statements.proofs.changes.updated.Goals as goal

pub returns-in_ok-set_twice-in-Some-clause-refused : goal.returns-in_ok-set_twice-in-Some-clause-refused
returns-in_ok-set_twice-in-Some-clause-refused c = set_twice c.in_ok-sets.sets c.in-Some.at c.in_ok-sets.ensures.typed (ap (λ ss. repeated nat_eq (map set_number ss)) (sym c.as_slice.ensures) ∙ sym c.repeated_set.ensures ∙ c.in-Some.is) c.in_ok-set_twice-in-Some.ensures
