use Rattle.std.proofs.Common.{◌≡◌, ◌++◌, take}
use Rattle.ur_kinds.specs.Acts.{acts}
use Rattle.ur_kinds.proofs.log.copy_all.Given as goal

abbrev pub invariant-loop-event : goal.invariant-loop-event
invariant-loop-event l = acts l.out ≡ acts l.initial.out ++ acts (take l.event-index l.events)
