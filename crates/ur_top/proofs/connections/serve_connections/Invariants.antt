use Rattle.std.proofs.Common.{◌≡◌, ◌≢◌, ◌≤◌, ◌+◌, false, [], length, All}
use Rattle.ur_base.specs.Counts.{RoseBy}
use Rattle.ur_io.specs.Calls.{count_after}
use Rattle.ur_io.specs.declared.session.SessionEnd.{SessionEnd}
use Rattle.ur_serve.specs.Serving.{IsReadyWithin}
use Rattle.ur_serve.specs.Responding.{served_by, holding_of}
use Rattle.ur_headline.specs.Counting.{keeper_faults, wire_faults, marks_of}
use Rattle.ur_top.proofs.Goings.{SoFar, Comes}
use Rattle.ur_top.proofs.connections.serve_connections.Given as goal

abbrev pub invariant-loop-turn : goal.invariant-loop-turn
invariant-loop-turn g l = record {
  count : length l.sessions.items ≡ l._turn;
  room : l.fn.most ≤ l._turn + l.sessions.spare;
  marks : 16777216 ≤ l.left + marks_of l.sessions.items;
  total : l.left + marks_of l.sessions.items ≤ 16777216;
  short : All (λ (s : SessionEnd). length s.marks ≤ 1000) l.sessions.items;
  ready : IsReadyWithin 9223300000000000000 l.server (g.K.Keeper.kept l.keeper) (g.K.Keeper.under_way l.keeper) (g.K.Keeper.saved l.keeper) l.left;
  same : served_by l.server ≡ served_by l.fn.server;
  sofar : SoFar (served_by l.fn.server) (g.W.Wire.told l.fn.wire) (g.K.Keeper.saved l.fn.keeper) (g.K.Keeper.reads l.fn.keeper) l.sessions.items l.left
      (g.W.Wire.told l.wire) (holding_of l.server (g.K.Keeper.saved l.keeper) (g.K.Keeper.reads l.keeper));
  comes : Comes (g.W.Wire.told l.fn.wire) (length l.sessions.items) (g.W.Wire.told l.wire);
  keeper_faults : RoseBy (keeper_faults l.sessions.items) (g.K.Keeper.faults l.fn.keeper) (g.K.Keeper.faults l.keeper);
  wire_counted : g.W.Wire.faults l.wire ≡ count_after (wire_faults l.sessions.items) (g.W.Wire.faults l.fn.wire);
  shut : l.sessions.items ≢ [] → g.W.Wire.is_current l.wire ≡ false;
  idle : l.sessions.items ≡ [] → (l.wire ≡ l.fn.wire) × (l.keeper ≡ l.fn.keeper);
  wire_later : g.W.Wire.faults l.fn.wire ≤ g.W.Wire.faults l.wire;
  keeper_later : g.K.Keeper.faults l.fn.keeper ≤ g.K.Keeper.faults l.keeper;
}
