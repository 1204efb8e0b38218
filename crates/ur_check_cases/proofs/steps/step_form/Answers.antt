use Rattle.std.proofs.Common.{sym, ap, ◌∙◌}
use Rattle.std.specs.Prelude.{option_map}
use Rattle.ur_check_cases.specs.Steps.{step_in}
use Rattle.ur_check_cases.proofs.Stepping.{step-found, step-told}
use Rattle.ur_check_cases.proofs.steps.step_form.Goals as goal

pub returns-in-Some-clause-form : goal.returns-in-Some-clause-form
returns-in-Some-clause-form c = step-found c.args.params.now c.in-Some.step (sym (ap (option_map step_in) c.in-Some.is) ∙ c.read_step.ensures)

pub returns-in-None-clause-refused : goal.returns-in-None-clause-refused
returns-in-None-clause-refused c = step-told c.args.params.now c.no_step.result (sym (ap (option_map step_in) c.in-None.is) ∙ c.read_step.ensures) c.no_step.ensures
