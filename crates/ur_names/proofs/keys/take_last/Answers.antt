use Rattle.std.proofs.Common.{refl}
use Rattle.ur_names.proofs.Indexing.{last_there, popped}
use Rattle.ur_names.proofs.keys.take_last.Goals as goal

pub set-requires : goal.set-requires
set-requires c = last_there c.args.entries.now c.pop.new.self c.args.ends.now c.in-Some.entry c.into_spot.result c.requires c.in-Some.ensures c.into_spot.ensures

pub returns-in-Some-clause-indexed : goal.returns-in-Some-clause-indexed
returns-in-Some-clause-indexed c = popped c.args.entries.now c.pop.new.self c.args.ends.now c.set.new.ends c.in-Some.entry c.into_spot.result c.in-Some.entry.before
    c.requires c.in-Some.ensures c.into_spot.ensures refl c.set.ensures.0
