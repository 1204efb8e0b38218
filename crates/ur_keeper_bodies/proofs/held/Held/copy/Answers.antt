use Rattle.std.proofs.Common.{◌≡◌, ◌++◌, ◌∷◌, ap, ◌∙◌, sym, rules, ℕ, List}
use Rattle.std.specs.BTreeMap.{insert_entry}
use Rattle.std.specs.FinMap.{entries, entries-from_sorted, entries_sorted}
use Rattle.std.specs.Map.Iter.{deref_pair}
use Rattle.std.proofs.lemmas.Map.Iter.{rest_more, rest_all}
use Rattle.ur_keeper_bodies.specs.Bodies.{BodyMap, place_cmp}
use Rattle.ur_keeper_bodies.proofs.Places.{Entries, copied-more, sorted-copy, copied-all}
use Rattle.ur_keeper_bodies.proofs.held.Held.copy.Goals as goal

pub loop-place-init : goal.loop-place-init
loop-place-init c =
    let from : c.into_iter-place-iterator.result ≡ c.self.inside.map.entries = search rules in
    (λ i. c.new-copy.ensures.empty i ++ from i)
    ∙ sym (entries-from_sorted place_cmp c.self.inside.map.entries c.self.invariant) ∙ ap (λ (m : BodyMap). entries m) c.self.view_is

pub loop-place-preserved-in_ok-insert : goal.loop-place-preserved-in_ok-insert
loop-place-preserved-in_ok-insert c =
    let next : c.loop-place.place-iterator ≡ (c.in-Some.place.now, c.in-Some.body.now) ∷ c.next.new.self = rest_more deref_pair _ _ c.next.result (c.in-Some.place, c.in-Some.body) c.in-Some.is c.next.ensures.steps in
    let same : c.in_ok-from_slice.field-0 ≡ c.in-Some.body.now = c.in_ok-from_slice.ensures ∙ c.as_slice.ensures in
    copied-more (entries c.args.self.now) c.loop-place.copy.entries _ c.in-Some.place.now c.in-Some.body.now c.next.new.self (entries_sorted c.args.self.now)
    (ap (λ (x : Entries). c.loop-place.copy.entries ++ x) (sym next) ∙ c.loop-place.invariant)
    (c.in_ok-insert.ensures.entries ∙ ap (λ (v : List ℕ). insert_entry place_cmp c.loop-place.copy.entries c.in-Some.place.now v) same)

pub loop-place-preserved : goal.loop-place-preserved
loop-place-preserved c =
    let next : c.loop-place.place-iterator ≡ (c.in-Some.place.now, c.in-Some.body.now) ∷ c.next.new.self = rest_more deref_pair _ _ c.next.result (c.in-Some.place, c.in-Some.body) c.in-Some.is c.next.ensures.steps in
    let same : c.in_ok-from_slice.field-0 ≡ c.in-Some.body.now = c.in_ok-from_slice.ensures ∙ c.as_slice.ensures in
    copied-more (entries c.args.self.now) c.loop-place.copy.entries _ c.in-Some.place.now c.in-Some.body.now c.next.new.self (entries_sorted c.args.self.now)
    (ap (λ (x : Entries). c.loop-place.copy.entries ++ x) (sym next) ∙ c.loop-place.invariant)
    (c.in_ok-insert.ensures.entries ∙ ap (λ (v : List ℕ). insert_entry place_cmp c.loop-place.copy.entries c.in-Some.place.now v) same)

pub invariant_of-result : goal.invariant_of-result
invariant_of-result c = sorted-copy (entries c.args.self.now) c.loop-place.copy.entries c.loop-place.place-iterator (entries_sorted c.args.self.now) (rest_all deref_pair _ _ c.next.result c.in-None.is c.next.ensures.steps) c.loop-place.invariant

pub returns : goal.returns
returns c = copied-all c.args.self.now c.loop-place.copy.entries c.loop-place.place-iterator (rest_all deref_pair _ _ c.next.result c.in-None.is c.next.ensures.steps) c.loop-place.invariant
