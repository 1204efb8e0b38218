use Rattle.std.proofs.Common.{take}
use Rattle.ur_load.specs.Sources.{HaveTrees}
use Rattle.ur_load.proofs.trees.trees_of.Given as goal

abbrev pub invariant-loop-source : goal.invariant-loop-source
invariant-loop-source l = HaveTrees (take l.source-index l.sources) l.trees
