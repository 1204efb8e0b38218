use Rattle.std.proofs.Common.{List, subst}
use Rattle.ur_base.specs.Told.{WhereTold}
use Rattle.ur_keeper_bodies.specs.declared.bodies.BodyChange.{BodyChange}
use Rattle.ur_keeper_bodies.specs.Bodies.{bodies_of, written}
use Rattle.ur_keeper_bodies.specs.declared.stored.Layout.TheVariants as layouts
use Rattle.ur_keeper_kept.specs.Laid.{table_tab, columns_at}
use Rattle.ur_keeper_kept.proofs.Finding.{finds-at}
use Rattle.ur_keeper_kept.specs.Faults.{AreReadable}
use Rattle.ur_keeper_kept.proofs.Within.{room-reads}
use Rattle.ur_keeper_kept.proofs.work.next_row.Goals as goal

pub returns-in_err-found-clause-found : goal.returns-in_err-found-clause-found
returns-in_err-found-clause-found g c =
    let s = c.args.schema.now in
    let i = c.args.table in
    finds-at c.from_residual.result _ _ _ _ _ c.from_residual.ensures.1 (λ other.
    room-reads s _ c.args.pending.now i c.requires.table c.requires.pending c.requires.room
    (subst (λ (x : List BodyChange). WhereTold (g.B.Bodies.bodies c.args.stock.now.bodies) (λ m. AreReadable layouts.Two (columns_at s i) (bodies_of (written m x) (table_tab i)) → ⊥)) c.as_slice.ensures (c.in_err-found.ensures.found other)))
