use Rattle.std.proofs.Common.{◌≡◌, length, map}
use Rattle.ur_typed_rules.specs.Repeats.{literal_name, twice_of}
use Rattle.ur_check_scopes.proofs.given.twice_in_record.Given as goal

abbrev pub invariant-loop-first : goal.invariant-loop-first
invariant-loop-first l = twice_of (map (λ f. literal_name f.name) l.left) ≡ twice_of (map (λ f. literal_name f.name) l.fields)

abbrev pub decreases-loop-first : goal.decreases-loop-first
decreases-loop-first l = length l.left
