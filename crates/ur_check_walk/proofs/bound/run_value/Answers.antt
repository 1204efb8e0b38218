use Rattle.std.proofs.Common.{ap, sym, ◌∙◌, Some}
use Rattle.std.specs.Option.{option_copied}
use Rattle.ur_check_walk.proofs.Choosing.{not-run-told}
use Rattle.ur_check_walk.proofs.bound.run_value.Goals as goal

pub returns-in_ok-copied-in-Some-clause-value : goal.returns-in_ok-copied-in-Some-clause-value
returns-in_ok-copied-in-Some-clause-value c = sym c.value_of.ensures ∙ ap option_copied c.in-Some.is ∙ ap Some (sym c.in_ok-copied-in-Some.ensures)

pub returns-in-None-clause-refused : goal.returns-in-None-clause-refused
returns-in-None-clause-refused c = not-run-told c.args.around.now.world.now.datatype_names c.args.of.now c.not_run.result (sym c.value_of.ensures ∙ ap option_copied c.in-None.is) c.not_run.ensures
