use Rattle.std.proofs.Common.{◌-◌, length}
use Rattle.ur_effects.specs.Search.{IsSearch, HasTargets, AreDone}
use Rattle.ur_effects.proofs.chain.writing_chain.Given as goal

abbrev pub invariant-loop-place : goal.invariant-loop-place
invariant-loop-place l = record {
  search : IsSearch l.code l.search;
  targets : HasTargets l.code l.search;
  done : AreDone l.code l.search l.place;
}

abbrev pub decreases-loop-place : goal.decreases-loop-place
decreases-loop-place l = length l.code.functions - l.place
