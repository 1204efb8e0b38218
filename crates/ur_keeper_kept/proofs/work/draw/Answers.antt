use Rattle.std.proofs.Common.{◌≡◌, ◌++◌, ◌∷◌, [], pos, ◌+ℤ◌, sym, ◌∙◌, w64, rules}
use Rattle.std.specs.Prelude.{FitsSigned}
use Rattle.std.proofs.lemmas.Int.{to_z-of_z}
use Rattle.ur_keeper_bodies.specs.declared.bodies.BodyChange.TheVariants as change
use Rattle.ur_values.specs.Values.{IsInt}
use Rattle.ur_keeper_bodies.specs.Rows.{int_body}
use Rattle.ur_keeper_kept.proofs.Steps.{Rises, is-drawn, number-is}
use Rattle.ur_keeper_kept.proofs.KeptRows.{number-at}
use Rattle.ur_keeper_kept.proofs.Told.{told-two}
use Rattle.ur_keeper_kept.proofs.work.draw.Goals as goal

pub returns-clause-changed : goal.returns-clause-changed
returns-clause-changed g c =
    let n = c.in_ok-number.number in
    let old = c.args.pending.now in
    let new = c.draw.new.self in
    let fits : IsInt (n +ℤ pos 1) = search rules in
    let changes : new.changes ≡ old.changes ++ change.Put (pos 1) (pos c.args.sequence) (int_body (n +ℤ pos 1)) ∷ [] = search rules in
    let seen : new.seen ≡ old.seen = search rules in
    let rises : Rises c.args.sequence (n +ℤ pos 1) old.drawn new.drawn = search rules in
    told-two _ _ _ _ c.requires.pending c.in_ok-number.ensures.number (λ m p is. is-drawn c.args.schema.now m old p c.args.sequence n new c.requires.sequence is fits c.in_ok-number.ensures.room.0 changes seen rises)

pub returns-clause-number : goal.returns-clause-number
returns-clause-number g c =
    let n = c.in_ok-number.number in
    let fits : FitsSigned w64 n = search rules in
    number-at c.args.schema.now _ c.args.pending.now.changes c.args.sequence _ c.requires.sequence (told-two _ _ _ _ c.requires.pending c.in_ok-number.ensures.number (λ m p is. to_z-of_z w64 n fits ∙ sym (number-is c.args.schema.now m c.args.pending.now p c.args.sequence n is)))
