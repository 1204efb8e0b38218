use Rattle.std.proofs.Common.{refl, length}
use Rattle.ur_rows_normal.specs.Walk.{key_of}
use Rattle.ur_rows_normal.proofs.NormalStanding.{found-here, passed-here}
use Rattle.ur_rows_normal.proofs.names.declared_as.Goals as goal

pub returns-then-names_entry : goal.returns-then-names_entry
returns-then-names_entry c = found-here (key_of c.args.key.now) c.args.entries.now (length c.args.entries.now) c.loop-i.i c.index-entries-count.result _ c.names_entry.result
    c.loop-i.invariant.0 c.loop-i-test.true refl c.index-entries-count.is c.names_entry.ensures c.if-names_entry.true

pub loop-i-preserved : goal.loop-i-preserved
loop-i-preserved c = (
  passed-here (key_of c.args.key.now) c.args.entries.now (length c.args.entries.now) c.loop-i.i c.index-entries-count.result _ c.names_entry.result
      c.loop-i.invariant.0 c.loop-i-test.true refl c.index-entries-count.is c.names_entry.ensures c.if-names_entry.false,
  refl,
)
