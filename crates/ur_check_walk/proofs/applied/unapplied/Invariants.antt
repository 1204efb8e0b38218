use Rattle.ur_check_walk.specs.Applying.{forms_in}
use Rattle.ur_check_walk.proofs.Applying.{Unapplies}
use Rattle.ur_check_walk.proofs.applied.unapplied.Given as goal

abbrev pub invariant-loop-argument : goal.invariant-loop-argument
invariant-loop-argument l = Unapplies l.e.form (forms_in l.initial.args) l.at.form (forms_in l.args)
