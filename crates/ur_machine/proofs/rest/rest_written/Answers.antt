-- What the frames make of what is given is the end of the run.
use Rattle.ur_emit.specs.declared.slots.Slot.TheVariants as slot
use Rattle.std.proofs.Common.{subst}
use Rattle.ur_emit.specs.Ends.{EndsAt}
use Rattle.ur_machine.proofs.AtOnce.{begun_ends}
use Rattle.ur_machine.proofs.rest.rest_written.Goals as goal

pub returns-in_ok-last-in-None : goal.returns-in_ok-last-in-None
returns-in_ok-last-in-None c =
    let code = c.args.code.now in
    let m = c.args.machine.now in
    let chunk = c.in_ok-chunk-in-None.chunk in
    let last = c.in_ok-last-in-None.last in
    let ends : EndsAt code.handlers code.functions m.frames.frames c.begun.new.slots (slot.Chunk chunk) last =
    subst (λ frames. EndsAt code.handlers code.functions frames c.begun.new.slots (slot.Chunk chunk) last) c.as_slice-frames.ensures
    c.in_ok-last-in-None.ensures in
    begun_ends code m c.stand_for.new.slots last (c.in_ok-stand_for.ensures code.handlers) chunk c.in-None.is c.in_ok-chunk-in-None.ensures.comes
    (subst (λ slots. EndsAt code.handlers code.functions m.frames.frames slots (slot.Chunk chunk) last) c.in_ok-chunk-in-None.ensures.slots ends)
