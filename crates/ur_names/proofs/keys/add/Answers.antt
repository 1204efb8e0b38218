use Rattle.ur_names.proofs.Indexing.{made, pushed, restored}
use Rattle.ur_names.proofs.keys.add.Goals as goal

pub returns-in-Ok-clause-indexed : goal.returns-in-Ok-clause-indexed
returns-in-Ok-clause-indexed c = pushed c.args.entries.now c.push.new.self c.args.ends.now c.insert.new.self c.args.key c.in_ok-spot.spot c.end-before.result c.len-count.result
    c.requires c.in_ok-spot.ensures c.end-before.ensures c.in_ok-push.ensures.ok c.len-count.ensures c.in-Ok.ensures.updates.0

pub returns-in-Err-clause-indexed : goal.returns-in-Err-clause-indexed
returns-in-Err-clause-indexed c = restored c.args.entries.now c.push.new.self c.taken_back.new.entries c.args.ends.now c.insert.new.self (made c.args.key c.end-before.result)
    c.requires c.in-Err.ensures.err c.in_ok-push.ensures.ok c.taken_back.ensures
