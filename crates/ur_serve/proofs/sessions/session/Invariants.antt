use Rattle.std.proofs.Common.{◌≡◌, ◌≤◌, ◌<◌, ◌+◌, ◌-◌, ◌*◌, ℕ, length, true, None, All}
use Rattle.ur_base.specs.Told.{WhereTold, Tells}
use Rattle.ur_io.specs.declared.session.Mark.TheVariants as mark
use Rattle.ur_http.specs.Items.{greatest_request}
use Rattle.ur_serve.proofs.Taking.{Taken}
use Rattle.ur_serve.proofs.Rounds.{InSession}
use Rattle.ur_serve.proofs.sessions.session.Given as goal

abbrev pub invariant-loop-why : goal.invariant-loop-why
invariant-loop-why g l = record {
  current : g.W.Wire.is_current l.wire ≡ true;
  unrefused : l.splitter.refused ≡ None;
  counted : g.W.Wire.faults l.wire ≡ g.W.Wire.faults l.fn.wire;
  keeper_later : g.A.Responder.faults l.fn.keeper ≤ g.A.Responder.faults l.keeper;
  same : g.A.Responder.program l.responder ≡ g.A.Responder.program l.fn.responder;
  short : length l.marks.items < l.fn.most;
  room : l.fn.most ≤ length l.marks.items + l.marks.spare;
  done : All (λ m. m ≡ mark.Done) l.marks.items;
  ready : (bound : g.A.Responder.Bound) (n : ℕ) → g.A.Responder.is_ready bound l.fn.responder l.fn.keeper (length l.marks.items + n) → g.A.Responder.is_ready bound l.responder l.keeper n;
  wired : WhereTold (g.W.Wire.told l.fn.wire) (λ t. Tells (g.W.Wire.told l.wire) (λ u. u.coming ≡ t.coming));
  taken : Taken (g.W.Wire.told l.fn.wire) (g.W.Wire.told l.wire) (length l.marks.items * greatest_request);
  sofar : InSession (g.A.Responder.answers (g.A.Responder.program l.fn.responder)) (g.A.Responder.reaches (g.A.Responder.program l.fn.responder)) g.A.Responder.kept
      l.fn.most (g.W.Wire.told l.fn.wire) (g.A.Responder.state l.fn.responder l.fn.keeper) (g.W.Wire.told l.wire) (g.A.Responder.state l.responder l.keeper) l.splitter.left l.marks.items;
}

abbrev pub decreases-loop-why : goal.decreases-loop-why
decreases-loop-why g l = l.fn.most - length l.marks.items
