use Rattle.std.proofs.Common.{arith, ◌≤◌, ◌++◌, length, take, length-append, refl, ap}
use Rattle.ur_io.specs.Memory.{traffic_of}
use Rattle.ur_io.proofs.Parts.{cut_onto, rises_on}
use Rattle.ur_io.proofs.memory.wire.MemoryWireWire.write.Goals as goal

pub invariant_of-self-2 : goal.invariant_of-self-2
invariant_of-self-2 c =
    let more = take c.put.result c.args.piece.now in
    let on : length c.self.inside.space.given ≤ length (c.self.inside.space.given ++ more) = omega (arith, length-append c.self.inside.space.given more) in
    rw (c.put.ensures.given) record {
      opened_within = c.self.invariant.opened_within;
      at_within = c.self.invariant.at_within;
      started = c.self.invariant.started;
      room_to_start = c.self.invariant.room_to_start;
      rises = rises_on c.self.inside.starts.items _ _ on c.self.invariant.rises;
    }

pub returns-clause-ok : goal.returns-clause-ok
returns-clause-ok c =
    rw (
      ← c.self.view_is,
      c.put.ensures.given,
      c.pass.ensures,
      cut_onto c.self.inside.starts.items c.self.inside.space.given (take c.put.result c.args.piece.now) c.self.invariant.rises,
    ) refl

pub returns-clause-contents : goal.returns-clause-contents
returns-clause-contents c = ap traffic_of (returns-clause-ok c)
