-- The static arguments so far, with those that are left, are all.
use Rattle.std.proofs.Common.{◌≡◌, length}
use Rattle.ur_source.specs.Items.{Scope, static_in}
use Rattle.ur_source.specs.Source.{source_of}
use Rattle.ur_unfold_pieces.specs.Moving.{Stays}
use Rattle.ur_unfold_pieces.specs.Standing.{IsWhole, ScopeIs}
use Rattle.ur_unfold_table.proofs.Called.{FixedTo}
use Rattle.ur_unfold_table.proofs.calls.fixed_args.Given as goal

abbrev pub invariant-loop-i : goal.invariant-loop-i
invariant-loop-i l =
    Stays l.initial.table l.table × ((around : Scope) → ScopeIs l.initial.table l.scope around → IsWhole l.initial.table → FixedTo (static_in (source_of l.initial.table.typed.now) around) l.table.closing.statics l.ps l.es l.i l.fixed)
    × (length l.ps ≡ length l.es)
