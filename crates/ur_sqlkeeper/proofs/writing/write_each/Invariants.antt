use Rattle.std.proofs.Common.{◌≡◌, true, IsTrue, drop}
use Rattle.sqlite.specs.Held.{state}
use Rattle.ur_keeper_bodies.specs.Bodies.{CanWrite}
use Rattle.ur_sqlkeeper.specs.Rows.{map_in}
use Rattle.ur_sqlkeeper.specs.Serving.{IsOurs}
use Rattle.ur_sqlkeeper.proofs.Calls.{Goes}
use Rattle.ur_sqlkeeper.proofs.writing.write_each.Given as goal

abbrev pub invariant-loop-change : goal.invariant-loop-change
invariant-loop-change g l = record {
  reference : l.transaction.conn.ghost_name ≡ l.initial.transaction.conn.ghost_name;
  kept : g.S.Honest.is_honest ≡ true → (state g.S.Store l.transaction.conn.now).committed ≡ (state g.S.Store l.initial.transaction.conn.now).committed;
  goes : g.S.Honest.is_honest ≡ true → IsTrue (state g.S.Store l.initial.transaction.conn.now).in_transaction → IsOurs (state g.S.Store l.initial.transaction.conn.now).now
      → CanWrite (map_in ((state g.S.Store l.initial.transaction.conn.now).now.trees 0)) l.changes
      → Goes (state g.S.Store l.initial.transaction.conn.now) (state g.S.Store l.transaction.conn.now) l.changes (drop l.change-index l.changes);
}
