use Rattle.ur_check_heads.proofs.Forming.{Climbs}
use Rattle.ur_check_heads.proofs.forms.are_rising.Given as goal

abbrev pub invariant-loop-i : goal.invariant-loop-i
invariant-loop-i l = Climbs l.form l.i
