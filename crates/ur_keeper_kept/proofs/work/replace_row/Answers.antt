use Rattle.std.proofs.Common.{◌≡◌, ◌≤◌, ◌++◌, ◌∷◌, [], pos, None, ap, ◌∙◌, rules}
use Rattle.ur_keeper_bodies.specs.declared.bodies.BodyChange.TheVariants as change
use Rattle.ur_keeper_bodies.specs.Columns.{columns_body}
use Rattle.ur_keeper_kept.specs.Laid.{table_tab, columns_at}
use Rattle.ur_keeper_kept.proofs.Steps.{is-replaced}
use Rattle.ur_keeper_kept.proofs.KeptRows.{may-write, long-enough, there-at}
use Rattle.ur_keeper_kept.proofs.Told.{told-two}
use Rattle.ur_keeper_kept.proofs.Within.{row-low}
use Rattle.ur_keeper_kept.proofs.work.replace_row.Goals as goal

pub columns_bytes-requires-clause-sizes : goal.columns_bytes-requires-clause-sizes
columns_bytes-requires-clause-sizes g c = c.requires.row.sizes

pub columns_bytes-requires-clause-long : goal.columns_bytes-requires-clause-long
columns_bytes-requires-clause-long g c =
    long-enough c.args.schema.now c.args.table c.args.row.now c.columns_at-columns.result.now c.requires.table c.requires.row c.columns_at-columns.ensures

pub returns-clause-changed : goal.returns-clause-changed
returns-clause-changed g c =
    let s = c.args.schema.now in
    let old = c.args.pending.now in
    let table = c.args.table in
    let place : c.in-Ok.place ≡ pos c.args.number = search rules in
    let body : c.in_ok-body.body ≡ columns_body (columns_at s table) c.args.row.now = c.in_ok-body.ensures ∙ ap (λ cs. columns_body cs c.args.row.now)
    c.columns_at-columns.ensures in
    let added : c.add.new.self ≡ record {
      changes = old.changes ++ change.Put (table_tab table) c.in-Ok.place c.in_ok-body.body ∷ [];
      seen = None;
      drawn =
          old.drawn;
    } = search rules in
    let new = added ∙ ap (λ b. record { changes = old.changes ++ change.Put (table_tab table) c.in-Ok.place b ∷ []; seen = None; drawn = old.drawn }) body in
    told-two _ _ _ _ c.requires.pending (there-at s _ old.changes table c.args.number c.requires.table c.requires.there)
    (λ m p there. is-replaced s m old p table c.args.row.now c.requires.table
    (may-write s table c.args.row.now c.requires.table c.requires.row p.good.short) c.args.number c.in-Ok.place c.add.new.self place there new)

pub returns-in_default-clause-found : goal.returns-in_default-clause-found
returns-in_default-clause-found g c = λ other.
    let high : 9223372036854775808 ≤ c.args.number = search rules in
    row-low c.args.schema.now _ c.args.pending.now c.args.table c.args.number c.requires.table c.requires.pending c.requires.there high
