-- The bodies so far, and the heads of the first instances.
use Rattle.std.proofs.Common.{◌≡◌, map}
use Rattle.ur_unfold_pieces.specs.Standing.{instances_in}
use Rattle.ur_unfold.specs.Heads.{HeadsAre}
use Rattle.ur_unfold.proofs.functions.functions_of.Given as goal

abbrev pub invariant-loop-body : goal.invariant-loop-body
invariant-loop-body l = (map (λ f. f.body) l.functions ≡ l.yielded) × HeadsAre l.typed (instances_in l.table) l.functions
