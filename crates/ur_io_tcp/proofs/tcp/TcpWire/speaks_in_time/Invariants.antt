-- Nothing changed yet that is told.
use Rattle.std.proofs.Common.{◌≡◌}
use Rattle.ur_io_tcp.proofs.tcp.TcpWire.speaks_in_time.Given as goal

abbrev pub invariant-loop-look : goal.invariant-loop-look
invariant-loop-look g l = l.self ≡ l.fn.self
