use Rattle.ur_keeper_kept.proofs.Attaching.{store-told}
use Rattle.std.proofs.Common.{ℕ, ◌<◌, length, refl, arith}
use Rattle.ur_keeper_bodies.specs.Bodies.{BodyMap}
use Rattle.ur_keeper_kept.specs.Attach.{IsSoundTable, IsSoundSequence, IsSoundStore}
use Rattle.ur_keeper_kept.proofs.Finding.{finds-exit, sound-table, sound-sequence}
use Rattle.ur_keeper_kept.proofs.checking.check_store.Goals as goal

pub returns-clause-sound : goal.returns-clause-sound
returns-clause-sound g c =
    store-told c.args.layout c.args.schema.now _ _ c.len.result c.in_ok-check_tables.ensures.same.same c.len.ensures c.in_ok-check_tables.ensures.sound c.in_ok-check_sequences.ensures.sound

pub returns-in_err-check_tables-clause-found : goal.returns-in_err-check_tables-clause-found
returns-in_err-check_tables-clause-found g c =
    let s = c.args.schema.now in
    finds-exit c.from_residual.result _ _ _ _ _ _ (λ (m : BodyMap). ((i : ℕ) → i < length s.tables → IsSoundTable c.args.layout s m i) → ⊥) (λ (m : BodyMap). IsSoundStore c.args.layout s m → ⊥) c.from_residual.ensures.1 refl refl
    (λ m h sound. h (λ i l. sound-table c.args.layout s m sound i l)) c.in_err-check_tables.ensures.found

pub returns-in_err-check_sequences-clause-found : goal.returns-in_err-check_sequences-clause-found
returns-in_err-check_sequences-clause-found g c =
    let s = c.args.schema.now in
    finds-exit c.from_residual-in_err-check_sequences.result _ _ _ _ _ _ (λ (m : BodyMap). ((i : ℕ) → i < c.len.result → IsSoundSequence m i) → ⊥) (λ (m : BodyMap). IsSoundStore c.args.layout s m → ⊥) c.from_residual-in_err-check_sequences.ensures.1
    c.in_ok-check_tables.ensures.found c.in_ok-check_tables.ensures.same.same (λ m h sound. h (λ i l. sound-sequence c.args.layout s m sound i (omega (arith, c.len.ensures, l)))) c.in_err-check_sequences.ensures.found
