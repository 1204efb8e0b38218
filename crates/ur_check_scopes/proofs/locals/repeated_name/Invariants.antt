use Rattle.std.proofs.Common.{◌≡◌, length, map}
use Rattle.ur_typed_rules.specs.Repeats.{twice_of}
use Rattle.ur_check_scopes.proofs.locals.repeated_name.Given as goal

abbrev pub invariant-loop-first : goal.invariant-loop-first
invariant-loop-first l = twice_of (map (λ x. x.name) l.left) ≡ twice_of (map (λ x. x.name) l.locals)

abbrev pub decreases-loop-first : goal.decreases-loop-first
decreases-loop-first l = length l.left
