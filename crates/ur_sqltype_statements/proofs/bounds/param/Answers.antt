use Rattle.std.proofs.Common.{sym, subst, codes}
use Rattle.ur_sqltype.specs.Faults.{TellsSql, misfit}
use Rattle.ur_sqltype.specs.SqltypeFaults.{missing, other_kind}
use Rattle.ur_sqltype_statements.proofs.bounds.param.Goals as goal

pub returns-in_ok-misfit-in-None-clause-refused : goal.returns-in_ok-misfit-in-None-clause-refused
returns-in_ok-misfit-in-None-clause-refused c = missing c.args.n (sym c.in-None.ensures.value) c.in_ok-misfit-in-None.ensures

pub returns-in_ok-misfit-in_default-clause-refused : goal.returns-in_ok-misfit-in_default-clause-refused
returns-in_ok-misfit-in_default-clause-refused c =
    other_kind c.args.n c.in-Some.kind.now (sym c.in-Some.ensures.value) c.in_default.not-Int
    (subst (λ z. TellsSql c.in_ok-misfit-in_default.field-0 (misfit z (codes "int"))) c.kind_text.ensures c.in_ok-misfit-in_default.ensures)
