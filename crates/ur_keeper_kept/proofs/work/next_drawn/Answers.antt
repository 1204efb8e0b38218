use Rattle.std.proofs.Common.{◌≡◌, ℤ, pos, ◌≤ℤ◌, sym, subst, ◌∙◌, w64, rules, List, arith}
use Rattle.std.specs.Prelude.{FitsSigned}
use Rattle.std.specs.Int.{cast_signed as to_z, cast_unsigned as of_z}
use Rattle.std.proofs.lemmas.Int.{to_z-of_z, ints}
use Rattle.ur_keeper_kept.proofs.Steps.{is-next}
use Rattle.ur_base.specs.Told.{WhereTold}
use Rattle.ur_keeper_bodies.specs.declared.bodies.BodyChange.{BodyChange}
use Rattle.ur_keeper_bodies.specs.Bodies.{body_at, written}
use Rattle.ur_keeper_kept.proofs.Finding.{finds-at}
use Rattle.ur_keeper_kept.specs.Faults.{IsDrawable}
use Rattle.ur_keeper_kept.proofs.Within.{room-draws, draws-on}
use Rattle.ur_keeper_kept.proofs.work.next_drawn.Goals as goal

pub returns-clause-number : goal.returns-clause-number
returns-clause-number g c =
    let n = c.next_of-next.result in
    let fits : FitsSigned w64 n = search rules in
    let low : pos 1 ≤ℤ n = search rules in
    let same : to_z w64 (of_z w64 n) ≡ n = to_z-of_z w64 n fits in
    is-next c.args.schema.now _ c.args.pending.now c.args.sequence (to_z w64 (of_z w64 n)) c.requires.pending (same ∙ c.next_of-next.ensures) (subst (λ (z : ℤ). pos 1 ≤ℤ z) (sym same) low)

pub returns-in_err-number-clause-found : goal.returns-in_err-number-clause-found
returns-in_err-number-clause-found g c =
    let q = c.args.sequence in
    finds-at c.from_residual.result _ _ _ _ _ c.from_residual.ensures.1 (λ other.
    room-draws c.args.schema.now _ c.args.pending.now q c.requires.sequence c.requires.pending c.requires.room
    (subst (λ (x : List BodyChange). WhereTold (g.B.Bodies.bodies c.args.stock.now.bodies) (λ m. IsDrawable (body_at (written m x) (pos 1) (pos q)) → ⊥)) c.as_slice.ensures (c.in_err-number.ensures.found other)))

pub returns-then-next-eq9223372036854775807-clause-found : goal.returns-then-next-eq9223372036854775807-clause-found
returns-then-next-eq9223372036854775807-clause-found g c = λ other.
    let n = c.next_of-next.result in
    let low : pos 1 ≤ℤ n = search rules in
    draws-on c.args.schema.now _ c.args.pending.now c.args.sequence n c.requires.sequence c.requires.pending c.requires.room c.next_of-next.ensures low (λ less. omega (arith, ints, less, c.if-next-eq9223372036854775807.true))
