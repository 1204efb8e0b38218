-- The calls meet the trait's clauses.
use Rattle.std.proofs.Common.{refl}
use Rattle.ur_io_tcp.proofs.Telling.{on_err, next_current, next_counts, stays, counts}
use Rattle.ur_io_tcp.proofs.tcp.TcpWireWire.TheImpl.Goals as goal

pub next-tells : goal.next-tells
next-tells g c = record {
  contents = tt {0};
  err = on_err c.result refl;
  current = next_current c.result c.args.self.now c.new.self.now c.ensures.result c.ensures.ok c.ensures.err;
  counts = (c.ensures.later, next_counts c.result c.args.self.now c.new.self.now c.ensures.ok c.ensures.err);
}

pub read-tells : goal.read-tells
read-tells g c = record {
  contents = tt {0};
  err = on_err c.result refl;
  within = c.ensures.within;
  stays = stays c.result c.args.self.now c.new.self.now c.requires.current c.ensures.same c.ensures.err;
  counts = (c.ensures.later, counts c.result c.args.self.now c.new.self.now c.ensures.same c.ensures.err);
}

pub write-tells : goal.write-tells
write-tells g c = record {
  contents = tt {0};
  err = on_err c.result refl;
  within = c.ensures.within;
  some = c.ensures.some;
  stays = stays c.result c.args.self.now c.new.self.now c.requires.current c.ensures.same c.ensures.err;
  counts = (c.ensures.later, counts c.result c.args.self.now c.new.self.now c.ensures.same c.ensures.err);
}
