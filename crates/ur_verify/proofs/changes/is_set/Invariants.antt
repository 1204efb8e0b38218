-- No column so far is the one that is looked for.
use Rattle.std.proofs.Common.{◌≡◌, drop, map, nat_eq}
use Rattle.std.specs.List.{list_any}
use Rattle.ur_verify.proofs.changes.is_set.Given as goal

abbrev pub invariant-loop-set : goal.invariant-loop-set
invariant-loop-set l =
    list_any (nat_eq l.column) (map (λ set. set.0) (drop l.set-index l.sets)) ≡ list_any (nat_eq l.column) (map (λ set. set.0) l.sets)
