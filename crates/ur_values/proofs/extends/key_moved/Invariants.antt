use Rattle.std.proofs.Common.{◌≡◌, ◌==◌, drop}
use Rattle.std.specs.Cmp.Lexicographic.{pointwise}
use Rattle.ur_values.specs.Extends.{moved}
use Rattle.ur_values.proofs.extends.key_moved.Given as goal

abbrev pub invariant-loop-i : goal.invariant-loop-i
invariant-loop-i l =
    pointwise (λ a b. a == moved l.columns l.kept b) (drop l.i l.key) (drop l.i l.other) ≡ pointwise (λ a b. a == moved l.columns l.kept b) l.key l.other
