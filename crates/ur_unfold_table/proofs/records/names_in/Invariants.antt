-- The names so far, with those of the fields that are left, are all.
use Rattle.ur_source.specs.Items.{Scope}
use Rattle.ur_unfold_pieces.specs.Standing.{ScopeIs}
use Rattle.ur_unfold_table.proofs.Recorded.{NamedTo}
use Rattle.ur_unfold_table.proofs.records.names_in.Given as goal

abbrev pub invariant-loop-i : goal.invariant-loop-i
invariant-loop-i l = (around : Scope) → ScopeIs l.table l.scope around → NamedTo l.table.typed.now.names around.cons l.all l.i l.names
