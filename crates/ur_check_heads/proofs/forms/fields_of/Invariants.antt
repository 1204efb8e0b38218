use Rattle.std.proofs.Common.{◌≡◌, map, take}
use Rattle.std.specs.Prelude.{All}
use Rattle.ur_check_heads.specs.Forms.{form_part, HasName}
use Rattle.ur_check_heads.proofs.forms.fields_of.Given as goal

abbrev pub invariant-loop-i : goal.invariant-loop-i
invariant-loop-i l = All (HasName l.names) l.form × (map (form_part l.names) l.form ≡ map (λ p. p) (take l.i l.row))
