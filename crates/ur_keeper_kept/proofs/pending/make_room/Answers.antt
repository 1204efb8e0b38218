use Rattle.std.proofs.Common.{pos, ap, List, ℤ, get_or, ◌∙◌}
use Rattle.ur_keeper_kept.proofs.Numbers.{none-pushed}
use Rattle.ur_keeper_kept.proofs.pending.make_room.Goals as goal

pub loop-numbers-preserved : goal.loop-numbers-preserved
loop-numbers-preserved c =
    λ q. ap (λ (xs : List ℤ). get_or xs q (pos 0)) c.in_ok-push.ensures.ok ∙ none-pushed c.loop-numbers.numbers q ∙ c.loop-numbers.invariant q
