use Rattle.std.proofs.Common.{◌≡◌, ◌+◌, [], ◌∷◌, take, map}
use Rattle.ur_rows.specs.declared.normal.Var.TheVariants as var
use Rattle.ur_rows.specs.declared.normal.Label.TheVariants as label
use Rattle.ur_rows.specs.declared.normal.Part.TheVariants as part
use Rattle.ur_rows.specs.Made.{field, unit}
use Rattle.ur_disjoint.specs.Tests.{pair}
use Rattle.ur_check_cases.proofs.scopes.step_known.Given as goal

abbrev pub invariant-loop-i : goal.invariant-loop-i
invariant-loop-i l = map pair l.known ≡ (field (label.Variable (var.Free l.kinds)) unit ∷ [], part.Piece (var.Free (l.kinds + 2)) ∷ []) ∷ map pair (take l.i l.around)
