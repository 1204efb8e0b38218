use Rattle.ur_machine.proofs.law.patterns_are_sound.Goals as goal

pub returns : goal.returns
returns c = λ code patterns fits all. record {
  exact = all;
  sound = c.patterns_keep_answers.ensures code.schema code.queries code.changes patterns fits.queries fits.changes all;
  reads = c.patterns_read_arguments.ensures code.schema code.queries code.changes patterns fits.queries fits.changes all;
}
