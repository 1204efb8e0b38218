use Rattle.std.proofs.Common.{◌≡◌, ◌≤◌, ◌++◌, ◌∷◌, [], length, pos, ap, ◌∙◌, arith}
use Rattle.ur_keeper_bodies.specs.declared.bodies.BodyChange.TheVariants as change
use Rattle.ur_keeper_bodies.specs.Stored.{stored_text}
use Rattle.ur_keeper_kept.proofs.GrowingStores.{rows-on, rows-end}
use Rattle.ur_keeper_kept.proofs.growing.rewriting.Goals as goal

pub loop-place-preserved : goal.loop-place-preserved
loop-place-preserved g c = record {
  same = record { same = c.in_ok-rewrite_table.ensures.same.same ∙ c.loop-place.invariant.same.same; stays_open = c.in_ok-rewrite_table.ensures.same.stays_open };
  first = c.in_ok-rewrite_table.ensures.first ∙ c.loop-place.invariant.first;
  later = omega (arith, c.loop-place.invariant.later, c.in_ok-rewrite_table.ensures.cause.later);
  found = c.in_ok-rewrite_table.ensures.found ∙ c.loop-place.invariant.found;
  told =
      rows-on c.args.schema.now c.args.kept.now _ _ c.loop-place.place c.loop-place.changes c.rewrite_table.new.changes (omega (arith, c.loop-place-test.true)) c.loop-place.invariant.same.same c.loop-place.invariant.told c.in_ok-rewrite_table.ensures.changes;
}

pub returns-clause-changes : goal.returns-clause-changes
returns-clause-changes g c =
    let pushed : c.push.new.self ≡ c.loop-place.changes ++ change.Put (pos 0) (pos 0) (stored_text c.args.schema.now) ∷ [] = c.in_ok-push.ensures.ok ∙ ap
    (λ t. c.loop-place.changes ++ change.Put (pos 0) (pos 0) t ∷ []) c.in_ok-text.ensures in
    let past : length c.args.kept.now.tables ≤ c.loop-place.place = omega (arith, c.loop-place-test.false) in
    rows-end c.args.schema.now c.args.kept.now _ c.loop-place.place c.loop-place.changes c.push.new.self past c.loop-place.invariant.told pushed
