use Rattle.std.proofs.Common.{◌≡◌, ◌++◌, take, flat_map}
use Rattle.ur_check.specs.Parts.{of_declaration}
use Rattle.ur_check.proofs.decls.declarations.Given as goal

abbrev pub invariant-loop-d : goal.invariant-loop-d
invariant-loop-d l = l.out ≡ l.initial.out ++ flat_map of_declaration (take l.d-index l.ds)
