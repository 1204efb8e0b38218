use Rattle.std.proofs.Common.{◌≡◌, List, Some, pos, ap, sym, subst, ◌∙◌, rules}
use Rattle.ur_base.specs.Told.{WhereTold}
use Rattle.ur_values.specs.declared.schema.Numbered.{Numbered}
use Rattle.ur_values.specs.Numbered.{next_number}
use Rattle.ur_keeper_bodies.specs.declared.bodies.BodyChange.{BodyChange}
use Rattle.ur_keeper_bodies.specs.Bodies.{BodyMap, bodies_of, written}
use Rattle.ur_keeper_bodies.specs.declared.stored.Layout.TheVariants as layouts
use Rattle.ur_keeper_kept.specs.Laid.{table_tab, columns_at}
use Rattle.ur_keeper_kept.specs.declared.pending.Pending.{Pending}
use Rattle.ur_keeper_kept.specs.Kept.{AreRead, IsPending}
use Rattle.ur_keeper_kept.proofs.KeptRows.{rows-at}
use Rattle.ur_keeper_kept.proofs.Told.{told-one, told-two}
use Rattle.ur_keeper_kept.proofs.Finding.{finds-at}
use Rattle.ur_keeper_kept.specs.Faults.{AreReadable}
use Rattle.ur_keeper_kept.proofs.Within.{unread-now}
use Rattle.ur_keeper_kept.proofs.work.scan_rows.Goals as goal

pub returns-clause-rows : goal.returns-clause-rows
returns-clause-rows g c =
    let f = c.in_ok-found.found in
    let read = subst (λ (x : List BodyChange). WhereTold (g.B.Bodies.bodies c.args.stock.now.bodies) (λ m. AreRead layouts.Two (columns_at c.args.schema.now c.args.table) (bodies_of (written m x) (table_tab c.args.table)) f.rows f.next)) c.as_slice.ensures c.in_ok-found.ensures.read in
    rows-at c.args.schema.now _ c.args.pending.now.changes c.args.table f.rows c.requires.table (told-one _ (λ (m : BodyMap). AreRead layouts.Two (columns_at c.args.schema.now c.args.table) (bodies_of (written m c.args.pending.now.changes) (table_tab c.args.table)) f.rows f.next) _ read (λ m r. r.read))

pub returns-clause-pending : goal.returns-clause-pending
returns-clause-pending g c =
    let f = c.in_ok-found.found in
    let read = subst (λ (x : List BodyChange). WhereTold (g.B.Bodies.bodies c.args.stock.now.bodies) (λ m. AreRead layouts.Two (columns_at c.args.schema.now c.args.table) (bodies_of (written m x) (table_tab c.args.table)) f.rows f.next)) c.as_slice.ensures c.in_ok-found.ensures.read in
    let seen : c.see.new.self ≡ record { changes = c.args.pending.now.changes; seen = Some (c.args.table, f.next); drawn = c.args.pending.now.drawn } = search rules in
    told-two _ (λ (m : BodyMap). IsPending c.args.schema.now m c.args.pending.now) (λ (m : BodyMap). AreRead layouts.Two (columns_at c.args.schema.now c.args.table) (bodies_of (written m c.args.pending.now.changes) (table_tab c.args.table)) f.rows f.next) _ c.requires.pending read (λ m p r. subst (λ (x : Pending). IsPending c.args.schema.now m x) (sym seen) (record { good = p.good; seen = r.last ∙ ap (λ (rows : List Numbered). pos (next_number rows)) r.read; drawn = p.drawn }))

pub returns-in_err-found-clause-found : goal.returns-in_err-found-clause-found
returns-in_err-found-clause-found g c =
    let s = c.args.schema.now in
    let i = c.args.table in
    finds-at c.from_residual.result _ _ _ _ _ c.from_residual.ensures.1 (λ other.
    unread-now s _ c.args.pending.now i c.requires.table c.requires.pending
    (subst (λ (x : List BodyChange). WhereTold (g.B.Bodies.bodies c.args.stock.now.bodies) (λ m. AreReadable layouts.Two (columns_at s i) (bodies_of (written m x) (table_tab i)) → ⊥)) c.as_slice.ensures (c.in_err-found.ensures.found other)))
