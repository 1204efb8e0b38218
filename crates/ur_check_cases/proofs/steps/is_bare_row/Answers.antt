use Rattle.std.proofs.Common.{ap, sym, ◌∙◌}
use Rattle.ur_typed.specs.Folds as folds
use Rattle.ur_check_cases.specs.Steps.{one_bare}
use Rattle.ur_check_cases.proofs.Stepping.{row-one}
use Rattle.ur_check_cases.proofs.steps.is_bare_row.Goals as goal

pub returns-in-Row : goal.returns-in-Row
returns-in-Row c = c.one_bare.ensures ∙ ap (one_bare c.args.name.now) c.as_slice.ensures ∙ sym (ap (folds.is_bare_row c.args.name.now) c.in-Row.is ∙ row-one c.args.name.now c.in-Row.fields)
