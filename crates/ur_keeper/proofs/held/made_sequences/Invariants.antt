use Rattle.std.proofs.Common.{◌≡◌, map, take}
use Rattle.ur_keeper.specs.Sequences.{first_draw}
use Rattle.ur_keeper.proofs.held.made_sequences.Given as goal

abbrev pub invariant-loop-name : goal.invariant-loop-name
invariant-loop-name l = l.sequences.items ≡ map (λ _. first_draw) (take l._name-index l._name-items)
