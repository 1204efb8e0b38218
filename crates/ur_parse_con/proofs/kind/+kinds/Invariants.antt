use Rattle.std.proofs.Common.{ℕ, ◌+◌, ◌-◌, ◌*◌, ◌≤◌, length}
use Rattle.ur_parse_rules.specs.Places.{Moves}
use Rattle.ur_parse_con.proofs.Chains.{Chain}
use Rattle.ur_parse_con.proofs.kind.+kinds.Given as goal

abbrev pub decreases-kind : goal.decreases-kind
decreases-kind l = 2 * (length l.tokens.now - l.at) + 1

abbrev pub decreases-kind_atom : goal.decreases-kind_atom
decreases-kind_atom l = 2 * (length l.tokens.now - l.at)

abbrev pub invariant-kind-arrows : goal.invariant-kind-arrows
invariant-kind-arrows l = record {
  start : l.at ≤ l.begin;
  last : Moves l.tokens l.begin l.last.end;
  chain : (n : ℕ) → Chain n l.tokens l.at l.begin l.last.end l.left l.last.tree;
}

abbrev pub decreases-kind-arrows : goal.decreases-kind-arrows
decreases-kind-arrows l = length l.tokens - l.last.end
