-- The routes so far fit their functions.
use Rattle.std.proofs.Common.{take}
use Rattle.std.specs.List.{AllZip}
use Rattle.ur_code.specs.Fits.{FitsRoute}
use Rattle.ur_verify.proofs.routes.routes_fit.Given as goal

abbrev pub invariant-loop-i : goal.invariant-loop-i
invariant-loop-i l = AllZip (FitsRoute l.code) (take l.i l.routes) (take l.i l.targets)
