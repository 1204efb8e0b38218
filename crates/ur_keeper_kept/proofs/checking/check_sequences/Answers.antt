use Rattle.std.proofs.Common.{ℕ, ◌<◌, ◌∙◌, arith}
use Rattle.ur_keeper_bodies.specs.Bodies.{BodyMap}
use Rattle.ur_keeper_kept.specs.Attach.{IsSoundSequence}
use Rattle.ur_keeper_kept.proofs.Told.{told-one}
use Rattle.ur_keeper_kept.proofs.Loops.{told-step}
use Rattle.ur_keeper_kept.proofs.Finding.{finds-exit}
use Rattle.ur_keeper_kept.proofs.checking.check_sequences.Goals as goal

pub loop-place-preserved : goal.loop-place-preserved
loop-place-preserved g c = record {
  same = record { same = c.in_ok-check_sequence.ensures.same.same ∙ c.loop-place.invariant.same.same; stays_open = c.in_ok-check_sequence.ensures.same.stays_open };
  first = c.in_ok-check_sequence.ensures.first ∙ c.loop-place.invariant.first;
  later = omega (arith, c.loop-place.invariant.later, c.in_ok-check_sequence.ensures.cause.later);
  found = c.in_ok-check_sequence.ensures.found ∙ c.loop-place.invariant.found;
  told =
      told-step _ _ (λ (m : BodyMap) (i : ℕ). IsSoundSequence m i) c.loop-place.place c.loop-place.invariant.same.same c.loop-place.invariant.told c.in_ok-check_sequence.ensures.sound;
}

pub returns-clause-sound : goal.returns-clause-sound
returns-clause-sound g c =
    told-one _ (λ (m : BodyMap). (i : ℕ) → i < c.loop-place.place → IsSoundSequence m i) _ c.loop-place.invariant.told (λ m h i l. h i (omega (arith, l, c.loop-place-test.false)))

pub returns-in_err-check_sequence-clause-found : goal.returns-in_err-check_sequence-clause-found
returns-in_err-check_sequence-clause-found g c =
    finds-exit c.from_residual.result _ _ _ _ _ _ (λ (m : BodyMap). IsSoundSequence m c.loop-place.place → ⊥) (λ (m : BodyMap). ((i : ℕ) → i < c.args.sequences → IsSoundSequence m i) → ⊥) c.from_residual.ensures.1 c.loop-place.invariant.found c.loop-place.invariant.same.same
    (λ m h f. h (f c.loop-place.place (omega (arith, c.loop-place-test.true)))) c.in_err-check_sequence.ensures.found
