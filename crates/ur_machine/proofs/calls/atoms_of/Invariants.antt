use Rattle.std.proofs.Common.{◌≡◌, take}
use Rattle.ur_values.specs.Atom.{atom_values}
use Rattle.ur_machine.proofs.calls.atoms_of.Given as goal

abbrev pub invariant-loop-value : goal.invariant-loop-value
invariant-loop-value l = atom_values l.atoms ≡ take l.value-index l.key
