use Rattle.std.proofs.Common.{◌≡◌, take}
use Rattle.ur_kinds.specs.Acts.{kinds_of}
use Rattle.ur_kinds.proofs.state.kinds_of.Given as goal

abbrev pub invariant-loop-param : goal.invariant-loop-param
invariant-loop-param l = l.kinds ≡ kinds_of (take l.param-index l.params)
