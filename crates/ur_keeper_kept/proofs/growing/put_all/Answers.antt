use Rattle.std.proofs.Common.{◌≡◌, ◌+◌, ◌≤◌, ◌++◌, ◌∷◌, [], None, length, take, ap, sym, ◌∙◌, w64, arith, rules}
use Rattle.std.specs.Int.{cast_signed as to_z, cast_unsigned as of_z}
use Rattle.std.proofs.lemmas.Int.{to_z-of_z}
use Rattle.std.proofs.lemmas.List.{take_more, take_all}
use Rattle.ur_keeper_bodies.specs.declared.bodies.BodyChange.TheVariants as change
use Rattle.ur_keeper_bodies.specs.Rows.{row_of, kinds_in}
use Rattle.ur_keeper_kept.specs.Rewriting.{puts}
use Rattle.ur_keeper_kept.specs.First.{new_body}
use Rattle.ur_keeper_kept.proofs.GrowingStores.{row-more, no-row}
use Rattle.ur_keeper_kept.proofs.growing.put_all.Goals as goal

pub loop-entry-preserved : goal.loop-entry-preserved
loop-entry-preserved c =
    let all = c.args.entries.now in
    let i = c.loop-entry.entry-index in
    let e = c.entry-item.result in
    let f = new_body c.args.columns.now c.args.others.now in
    let more : take (i + 1) all ≡ take i all ++ e ∷ [] = take_more all i e c.loop-entry-test.true ∙ ap (λ x. take i all ++ x ∷ []) (sym c.entry-item.is) in
    let pushed : c.push.new.self ≡ c.loop-entry.changes ++ change.Put c.args.tab e.0 (f e) ∷ [] = search rules in
    let tab = to_z w64 (of_z w64 c.args.tab) in
    let whole : c.push.new.self ≡ c.loop-entry.changes ++ change.Put tab e.0 (f e) ∷ [] = pushed ∙ ap (λ t. c.loop-entry.changes ++ change.Put t e.0 (f e) ∷ []) (sym (to_z-of_z w64 c.args.tab c.ranges.tab)) in
    row-more tab f (take i all) (take (i + 1) all) e c.args.changes.now c.loop-entry.changes c.push.new.self more c.loop-entry.invariant whole

pub returns-clause-all : goal.returns-clause-all
returns-clause-all c = λ _.
    let past : length c.args.entries.now ≤ c.loop-entry.entry-index = omega (arith, c.loop-entry-test.false) in
    let all = take_all c.loop-entry.entry-index c.args.entries.now past in
    let tab = to_z-of_z w64 c.args.tab c.ranges.tab in
    c.loop-entry.invariant ∙ (λ i. c.args.changes.now ++ puts (tab i) (new_body c.args.columns.now c.args.others.now) (all i))

pub returns-in_default-clause-none : goal.returns-in_default-clause-none
returns-in_default-clause-none c = λ _ all.
    let none : row_of (kinds_in c.args.others.now) c.entry-item.result.1 ≡ None = search rules in
    no-row c.args.others.now c.args.entries.now c.loop-entry.entry-index c.entry-item.result c.loop-entry-test.true c.entry-item.is none all
