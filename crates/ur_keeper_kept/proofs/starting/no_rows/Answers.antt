use Rattle.std.proofs.Common.{◌≡◌, ℕ, ◌<◌, [], ◌∙◌, arith}
use Rattle.ur_keeper_bodies.specs.Bodies.{BodyMap, bodies_of}
use Rattle.ur_keeper_kept.specs.Laid.{table_tab}
use Rattle.ur_keeper_kept.proofs.Told.{told-one}
use Rattle.ur_keeper_kept.proofs.Loops.{told-step}
use Rattle.ur_keeper_kept.proofs.starting.no_rows.Goals as goal

pub loop-place-preserved : goal.loop-place-preserved
loop-place-preserved g c = record {
  same = record { same = c.in_ok-no_row.ensures.same.same ∙ c.loop-place.invariant.same.same; stays_open = c.in_ok-no_row.ensures.same.stays_open };
  first = c.in_ok-no_row.ensures.first ∙ c.loop-place.invariant.first;
  later = omega (arith, c.loop-place.invariant.later, c.in_ok-no_row.ensures.cause.later);
  found = c.in_ok-no_row.ensures.found ∙ c.loop-place.invariant.found;
  told =
      told-step _ _ (λ (m : BodyMap) (i : ℕ). bodies_of m (table_tab i) ≡ []) c.loop-place.place c.loop-place.invariant.same.same c.loop-place.invariant.told c.in_ok-no_row.ensures.empty;
}

pub returns-clause-empty : goal.returns-clause-empty
returns-clause-empty g c =
    told-one _ (λ (m : BodyMap). (i : ℕ) → i < c.loop-place.place → bodies_of m (table_tab i) ≡ []) _ c.loop-place.invariant.told (λ m h i l. h i (omega (arith, l, c.loop-place-test.false)))
