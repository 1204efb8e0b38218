use Rattle.std.proofs.Common.{sym, ap, ap₂, ◌∙◌}
use Rattle.ur_terms.specs.Ops as ops
use Rattle.ur_machine.proofs.Giving.{gives_as}
use Rattle.ur_machine.proofs.queries.answered.Goals as goal

pub returns-in-All : goal.returns-in-All
returns-in-All c = gives_as c.all.result (λ s. ap (λ how. ops.answered how c.args.rows s) c.in-All.is) c.all.ensures

pub returns-in-One : goal.returns-in-One
returns-in-One c =
    gives_as c.only.result (λ s. ap₂ (λ how rows. ops.answered how rows s) c.in-One.is (sym (c.as_slice.ensures ∙ c.get.ensures))) c.only.ensures

pub returns-in-OneOrNone : goal.returns-in-OneOrNone
returns-in-OneOrNone c =
    gives_as c.at_most_one.result
    (λ s. ap₂ (λ how rows. ops.answered how rows s) c.in-OneOrNone.is (sym (c.as_slice-in-OneOrNone.ensures ∙ c.get-in-OneOrNone.ensures)))
    c.at_most_one.ensures
