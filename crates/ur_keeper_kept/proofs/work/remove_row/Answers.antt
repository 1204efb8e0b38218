use Rattle.std.proofs.Common.{◌≡◌, ◌≤◌, ◌++◌, ◌∷◌, [], pos, None, rules}
use Rattle.ur_keeper_bodies.specs.declared.bodies.BodyChange.TheVariants as change
use Rattle.ur_keeper_kept.specs.Laid.{table_tab}
use Rattle.ur_keeper_kept.proofs.Steps.{is-removed}
use Rattle.ur_keeper_kept.proofs.KeptRows.{there-at}
use Rattle.ur_keeper_kept.proofs.Told.{told-two}
use Rattle.ur_keeper_kept.proofs.Within.{row-low}
use Rattle.ur_keeper_kept.proofs.work.remove_row.Goals as goal

pub returns-clause-changed : goal.returns-clause-changed
returns-clause-changed g c =
    let place : c.in-Ok.place ≡ pos c.args.number = search rules in
    let new : c.add.new.self ≡ record { changes = c.args.pending.now.changes ++ change.Drop (table_tab c.args.table) c.in-Ok.place ∷ []; seen = None; drawn = c.args.pending.now.drawn } = search rules in
    told-two _ _ _ _ c.requires.pending (there-at c.args.schema.now _ c.args.pending.now.changes c.args.table c.args.number c.requires.table c.requires.there) (λ m p there. is-removed c.args.schema.now m c.args.pending.now p c.args.table c.args.number c.in-Ok.place c.add.new.self c.requires.table place there new)

pub returns-in_default-clause-found : goal.returns-in_default-clause-found
returns-in_default-clause-found g c = λ other.
    let high : 9223372036854775808 ≤ c.args.number = search rules in
    row-low c.args.schema.now _ c.args.pending.now c.args.table c.args.number c.requires.table c.requires.pending c.requires.there high
