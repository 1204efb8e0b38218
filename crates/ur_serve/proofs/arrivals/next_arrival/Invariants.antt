use Rattle.std.proofs.Common.{◌≡◌, ◌≤◌, ◌-◌, length, true, None}
use Rattle.ur_http.specs.Items.{greatest_request}
use Rattle.ur_serve.proofs.Arriving.{Moved}
use Rattle.ur_serve.proofs.Taking.{Taken}
use Rattle.ur_serve.proofs.arrivals.next_arrival.Given as goal

abbrev pub invariant-loop-request : goal.invariant-loop-request
invariant-loop-request g l = record {
  current : g.W.Wire.is_current l.wire ≡ true;
  same_size : length l.buffer ≡ length l.initial.buffer;
  unrefused : l.splitter.refused ≡ None;
  counted : g.W.Wire.faults l.wire ≡ g.W.Wire.faults l.initial.wire;
  grown : length l.initial.splitter.left ≤ length l.splitter.left;
  fits : length l.splitter.left - length l.initial.splitter.left ≤ greatest_request;
  taken : Taken (g.W.Wire.told l.initial.wire) (g.W.Wire.told l.wire) (length l.splitter.left - length l.initial.splitter.left);
  moved : Moved (g.W.Wire.told l.initial.wire) l.initial.splitter.left (g.W.Wire.told l.wire) l.splitter.left;
}

abbrev pub decreases-loop-request : goal.decreases-loop-request
decreases-loop-request g l = 1064960 - length l.splitter.left
