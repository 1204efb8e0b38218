use Rattle.std.proofs.Common.{◌≡◌, ℕ, List, drop, bytes_eq}
use Rattle.std.specs.Prelude.{find}
use Rattle.ur_machine.proofs.cookies.first_value.Given as goal

abbrev pub invariant-loop-pair : goal.invariant-loop-pair
invariant-loop-pair l = find (λ (p : List ℕ × List ℕ). bytes_eq p.0 l.name) (drop l.pair-index l.pairs) ≡ find (λ (p : List ℕ × List ℕ). bytes_eq p.0 l.name) l.pairs
