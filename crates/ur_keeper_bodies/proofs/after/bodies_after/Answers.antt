use Rattle.std.proofs.Common.{◌∙◌, sym, subst, T, ℤ, w64}
use Rattle.std.specs.Ordering.{int_cmp}
use Rattle.std.specs.FinMap.{is_sorted}
use Rattle.std.specs.Int.{cast_signed as to_z, cast_unsigned as of_z}
use Rattle.ur_keeper_bodies.proofs.Tables.{Rows, bodies-sorted, written-alike}
use Rattle.ur_keeper_bodies.proofs.after.bodies_after.Goals as goal

pub loop-change-init : goal.loop-change-init
loop-change-init c =
    let tab : ℤ = to_z w64 (of_z w64 c.args.tab) in
    λ m e. written-alike c.in_ok-held.held m tab c.args.changes.now (c.in_ok-held.ensures (subst (λ (x : Rows). T (is_sorted int_cmp x)) (sym e) (bodies-sorted m tab)) ∙ e)
