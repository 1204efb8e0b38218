use Rattle.std.proofs.Common.{ℕ, List, [], ◌∷◌, ◌++◌, ◌==◌, cond, get_or, ap, sym, ◌∙◌}
use Rattle.ur_invalidate.proofs.Pointwise.{members_more}
use Rattle.ur_invalidate.proofs.reading.members.Goals as goal

pub loop-number-preserved : goal.loop-number-preserved
loop-number-preserved c =
    c.in_ok-found.ensures ∙ ap (λ (l : List ℕ). l ++ cond (c.args.class == get_or c.args.args.now c.loop-number.number 0) (c.loop-number.number ∷ []) []) c.loop-number.invariant
    ∙ sym (members_more c.args.class c.args.args.now c.loop-number.number c.loop-number-test.true)
