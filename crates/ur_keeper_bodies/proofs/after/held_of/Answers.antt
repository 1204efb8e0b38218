use Rattle.std.proofs.Common.{◌≡◌, ◌++◌, ◌∷◌, ◌∙◌, ap, sym, ℤ, w64, rules}
use Rattle.std.specs.Prelude.{FitsSigned}
use Rattle.std.specs.Int.{cast_signed as to_z, cast_unsigned as of_z}
use Rattle.std.specs.FinMap.{insert}
use Rattle.std.specs.Vec.Iter.{into_iter_items}
use Rattle.std.proofs.lemmas.Int.{to_z-of_z}
use Rattle.ur_keeper_bodies.specs.Bodies.{bodies_of}
use Rattle.ur_keeper_bodies.proofs.Tables.{Rows, bodies-none, filled-more}
use Rattle.ur_keeper_bodies.proofs.after.held_of.Goals as goal

pub loop-num-init : goal.loop-num-init
loop-num-init c =
    let tab : ℤ = to_z w64 (of_z w64 c.args.tab) in
    let from : into_iter_items c.into_iter-num-iterator.result ≡ c.args.entries = search rules in
    λ sorted. (λ i. bodies_of (c.new-held.ensures i) tab ++ from i) ∙ ap (λ (x : Rows). x ++ c.args.entries) (bodies-none tab)

pub loop-num-preserved : goal.loop-num-preserved
loop-num-preserved c =
    let tab : ℤ = to_z w64 (of_z w64 c.args.tab) in
    let next : into_iter_items c.loop-num.num-iterator ≡ (c.in-Some.num, c.in-Some.body) ∷ into_iter_items c.next.new.self = search rules in
    let fits : FitsSigned w64 c.in-Some.num = search rules in
    λ sorted. filled-more tab c.in-Some.num c.in-Some.body c.loop-num.held _ (into_iter_items c.next.new.self) c.args.entries
    (c.in_ok-put.ensures.ok ∙ (λ i. insert c.loop-num.held (tab, to_z-of_z w64 c.in-Some.num fits i) c.in-Some.body)) sorted
    (ap (λ (x : Rows). bodies_of c.loop-num.held tab ++ x) (sym next) ∙ c.loop-num.invariant sorted)
