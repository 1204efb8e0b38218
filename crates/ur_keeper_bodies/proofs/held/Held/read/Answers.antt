use Rattle.std.proofs.Common.{◌≡◌, ◌++◌, ◌∷◌, ap, ◌∙◌, sym, w64, ℕ, ℤ, List, [], rules}
use Rattle.std.specs.Prelude.{FitsSigned}
use Rattle.std.specs.Int.{cast_signed as to_z, cast_unsigned as of_z}
use Rattle.std.specs.Map.Iter.{deref_pair}
use Rattle.std.proofs.lemmas.Int.{to_z-of_z}
use Rattle.std.proofs.lemmas.Map.Iter.{rest_more}
use Rattle.ur_keeper_bodies.specs.Bodies.{of_table, bodies_of}
use Rattle.ur_keeper_bodies.proofs.Places.{Entries, held-table, read-more}
use Rattle.ur_keeper_bodies.proofs.held.Held.read.Goals as goal

pub loop-place-init : goal.loop-place-init
loop-place-init c =
    let from : c.into_iter-place-iterator.result ≡ c.self.inside.map.entries = search rules in
    (λ i. c.new-found.ensures i ++ of_table (to_z-of_z w64 c.args.tab c.ranges.tab i) (from i))
    ∙ held-table c.self.inside.map.entries c.args.tab c.self.invariant
    ∙ (λ i. bodies_of (c.self.view_is i) (sym (to_z-of_z w64 c.args.tab c.ranges.tab) i))

pub loop-place-preserved-in_ok-push : goal.loop-place-preserved-in_ok-push
loop-place-preserved-in_ok-push c =
    let tab : ℤ = to_z w64 (of_z w64 c.args.tab) in
    let next : c.loop-place.place-iterator ≡ (c.in-Some.place.now, c.in-Some.body.now) ∷ c.next.new.self = rest_more deref_pair _ _ c.next.result (c.in-Some.place, c.in-Some.body) c.in-Some.is c.next.ensures.steps in
    let here : c.in-Some.place.now.0 ≡ tab = search rules in
    let fits : FitsSigned w64 c.in-Some.place.now.1 = search rules in
    let same : c.in_ok-from_slice.field-0 ≡ c.in-Some.body.now = c.in_ok-from_slice.ensures ∙ c.as_slice.ensures in
    ap (λ (x : List (ℤ × List ℕ)). x ++ of_table tab c.next.new.self) (c.in_ok-push.ensures.ok ∙ (λ i. c.loop-place.found ++ (to_z-of_z w64 c.in-Some.place.now.1 fits i, same i) ∷ []))
    ∙ read-more tab c.loop-place.found c.in-Some.place.now c.in-Some.body.now c.next.new.self (bodies_of c.args.self.now tab) here (ap (λ (x : Entries). c.loop-place.found ++ of_table tab x) (sym next) ∙ c.loop-place.invariant)
