use Rattle.ur_effects.specs.Search.{IsSearch}
use Rattle.ur_effects.proofs.Routes.{HasTargetsBelow}
use Rattle.ur_effects.proofs.search.targets_reached.Given as goal

abbrev pub invariant-loop-number : goal.invariant-loop-number
invariant-loop-number l = record {
  search : IsSearch l.code l.search;
  targets : HasTargetsBelow l.code l.search l.number;
}
