use Rattle.std.proofs.Common.{◌≡◌, take, drop}
use Rattle.ur_load.specs.Placed.{texts}
use Rattle.ur_load.specs.Project.{AreModules}
use Rattle.ur_load.proofs.modules.modules_from.Given as goal

abbrev pub invariant-loop-line : goal.invariant-loop-line
invariant-loop-line l = record {
  named : l.modules ≡ take l.line-index (drop l.begin (texts l.lines));
  fit : AreModules l.modules;
  known : l.known ≡ l.modules;
}
