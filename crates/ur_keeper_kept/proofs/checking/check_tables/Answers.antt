use Rattle.std.proofs.Common.{ℕ, ◌<◌, ◌∙◌, arith}
use Rattle.ur_keeper_bodies.specs.Bodies.{BodyMap}
use Rattle.ur_keeper_kept.specs.Attach.{IsSoundTable}
use Rattle.ur_keeper_kept.proofs.Told.{told-one}
use Rattle.ur_keeper_kept.proofs.Loops.{told-step}
use Rattle.ur_keeper_kept.proofs.checking.check_tables.Goals as goal

pub loop-place-preserved : goal.loop-place-preserved
loop-place-preserved g c = record {
  same = record { same = c.in_ok-check_table.ensures.same.same ∙ c.loop-place.invariant.same.same; stays_open = c.in_ok-check_table.ensures.same.stays_open };
  first = c.in_ok-check_table.ensures.first ∙ c.loop-place.invariant.first;
  later = omega (arith, c.loop-place.invariant.later, c.in_ok-check_table.ensures.cause.later);
  found = c.in_ok-check_table.ensures.found ∙ c.loop-place.invariant.found;
  told =
      told-step _ _ (λ (m : BodyMap) (i : ℕ). IsSoundTable c.args.layout c.args.schema.now m i) c.loop-place.place c.loop-place.invariant.same.same c.loop-place.invariant.told c.in_ok-check_table.ensures.sound;
}

pub returns-clause-sound : goal.returns-clause-sound
returns-clause-sound g c =
    told-one _ (λ (m : BodyMap). (i : ℕ) → i < c.loop-place.place → IsSoundTable c.args.layout c.args.schema.now m i) _ c.loop-place.invariant.told (λ m h i l. h i (omega (arith, l, c.loop-place-test.false)))
