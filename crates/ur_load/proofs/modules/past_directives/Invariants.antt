use Rattle.std.proofs.Common.{◌≡◌, true, take}
use Rattle.std.specs.List.{list_all}
use Rattle.ur_load.specs.Placed.{texts}
use Rattle.ur_load.specs.Project.{is_directive}
use Rattle.ur_load.proofs.modules.past_directives.Given as goal

abbrev pub invariant-loop-line : goal.invariant-loop-line
invariant-loop-line l = list_all is_directive (take l.line-index (texts l.lines)) ≡ true
