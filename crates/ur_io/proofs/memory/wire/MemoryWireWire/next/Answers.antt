use Rattle.std.proofs.Common.{arith, ◌<◌, ◌∷◌, [], true, Some, length, sym, subst, refl, length-append}
use Rattle.ur_io.specs.Memory.{traffic_of}
use Rattle.ur_io.specs.Traffic.{Opens}
use Rattle.ur_io.proofs.Parts.{cut_more, rises_more}
use Rattle.ur_io.proofs.Wires.{next_opens, opens_next}
use Rattle.ur_io.proofs.memory.wire.MemoryWireWire.next.Goals as goal

pub invariant_of-self-2 : goal.invariant_of-self-2
invariant_of-self-2 c = rw (c.push.ensures, c.given.ensures) record {
  opened_within = omega arith;
  at_within = omega arith;
  started = omega (arith, length-append c.self.inside.starts.items (length c.self.inside.space.given ∷ []));
  room_to_start = omega arith;
  rises = rises_more c.self.inside.starts.items (length c.self.inside.space.given) c.self.invariant.rises;
}

one_comes : (c : goal.After-self-5-1) → c.args.self.now.opened < length c.args.self.now.connections
one_comes c =
    let here : c.self.inside.opened < length c.self.inside.connections = omega (arith, c.self.invariant.opened_within) in
    rw (← c.self.view_is) here

pub returns-clause-ok : goal.returns-clause-ok
returns-clause-ok c =
    rw (
      next_opens c.args.self.now (one_comes c),
      ← c.self.view_is,
      c.push.ensures,
      c.given.ensures,
      c.pass.ensures,
      cut_more c.self.inside.starts.items c.self.inside.space.given,
    ) refl

pub returns-clause-contents : goal.returns-clause-contents
returns-clause-contents c =
    subst (λ s. Opens (traffic_of c.args.self.now) true (Some (traffic_of s))) (sym (returns-clause-ok c))
    (opens_next c.args.self.now (one_comes c))
