use Rattle.ur_effects.proofs.Chains.{ChainBack, places_left}
use Rattle.ur_effects.proofs.chain.chain_to.Given as goal

abbrev pub invariant-loop-at : goal.invariant-loop-at
invariant-loop-at l = ChainBack l.code l.found l.write l.at l.back

abbrev pub decreases-loop-at : goal.decreases-loop-at
decreases-loop-at l = places_left l.at
