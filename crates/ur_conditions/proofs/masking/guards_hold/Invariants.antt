use Rattle.std.proofs.Common.{◌≡◌, drop}
use Rattle.std.specs.List.{list_all}
use Rattle.ur_conditions.specs.Masks.{guard_holds}
use Rattle.ur_conditions.proofs.masking.guards_hold.Given as goal

abbrev pub invariant-loop-guard : goal.invariant-loop-guard
invariant-loop-guard l = list_all (guard_holds l.args) (drop l.guard-index l.guards) ≡ list_all (guard_holds l.args) l.guards
