use Rattle.std.proofs.Common.{◌≡◌, ◌++◌, take}
use Rattle.std.specs.Prelude.{codes}
use Rattle.ur_invalidate.specs.Texts.{further, guard_text}
use Rattle.ur_invalidate.proofs.pattern_text.write_more_guards.Given as goal

abbrev pub invariant-loop-guard : goal.invariant-loop-guard
invariant-loop-guard l = l.out ≡ l.initial.out ++ further (codes " and ") guard_text (take l.guard-index l.guards)
