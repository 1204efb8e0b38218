use Rattle.std.proofs.Common.{◌≡◌, take, map}
use Rattle.ur_values.specs.Atom.{fixed_values}
use Rattle.ur_conditions.specs.Masks.{fixed_at}
use Rattle.ur_conditions.proofs.masking.mask_of.Given as goal

abbrev pub invariant-loop-key : goal.invariant-loop-key
invariant-loop-key l = fixed_values l.keys ≡ map (fixed_at l.args) (take l.key-index l.pattern.keys)
