-- SOME has the optional kind of what stands inside.
use Rattle.std.proofs.Common.{◌∙◌, sym, ap}
use Rattle.std.specs.Prelude.{option_and_then}
use Rattle.ur_values.specs.Kinds.{optional}
use Rattle.ur_sql.specs.Kinds.{plain_kind, scalar_kind}
use Rattle.ur_sql.specs.Typing.{kinds_in}
use Rattle.ur_sqltype.proofs.SqltypeEquations.{scalar_kind-Present, scalar_kind-other}
use Rattle.ur_sqltype.proofs.row.scalar_kind.Goals as goal

pub returns-in-None : goal.returns-in-None
returns-in-None c =
    sym (ap (scalar_kind (kinds_in c.args.core.now)) c.in-Present.is ∙ scalar_kind-Present (kinds_in c.args.core.now) c.in-Present.a
    ∙ ap (λ z. option_and_then optional (plain_kind (kinds_in c.args.core.now) z)) (sym c.get.ensures) ∙ ap (option_and_then optional)
    (sym c.plain_kind.ensures ∙ c.in-None.is))

pub returns-in-Some : goal.returns-in-Some
returns-in-Some c =
    c.optional.ensures ∙ sym (ap (scalar_kind (kinds_in c.args.core.now)) c.in-Present.is ∙ scalar_kind-Present (kinds_in c.args.core.now) c.in-Present.a
    ∙ ap (λ z. option_and_then optional (plain_kind (kinds_in c.args.core.now) z)) (sym c.get.ensures) ∙ ap (option_and_then optional)
    (sym c.plain_kind.ensures ∙ c.in-Some.is))

pub returns-in_default : goal.returns-in_default
returns-in_default c = c.plain_kind-in_default.ensures ∙ scalar_kind-other (kinds_in c.args.core.now) c.args.by.now c.in_default.not-Present
