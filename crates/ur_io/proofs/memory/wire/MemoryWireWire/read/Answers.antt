use Rattle.std.proofs.Common.{arith, ◌≡◌, ◌++◌, min, length, take, drop, Some, sym, subst}
use Rattle.std.proofs.lemmas.Grind.{common_steps}
use Rattle.ur_io.specs.Memory.{next_piece, traffic_of}
use Rattle.ur_io.specs.Traffic.{Reads}
use Rattle.ur_io.proofs.Wires.{reads_piece}
use Rattle.ur_io.proofs.memory.wire.MemoryWireWire.read.Goals as goal

pub returns-clause-ok : goal.returns-clause-ok
returns-clause-ok c = grind (arith, common_steps)

pub returns-clause-contents : goal.returns-clause-contents
returns-clause-contents c =
    let n = c.copy_front-count.result in
    let old = c.args.buf.now in
    let new = c.copy_front-count.new.buf in
    let count : n ≡ min (length old) (length (next_piece c.args.self.now)) = grind (arith, common_steps) in
    let buffer : new ≡ take n (next_piece c.args.self.now) ++ drop n old = grind (arith, common_steps) in
    subst (λ s. Reads (traffic_of c.args.self.now) n new (Some (traffic_of s))) (sym (returns-clause-ok c))
    (reads_piece c.args.self.now n old new c.requires.room count buffer)
