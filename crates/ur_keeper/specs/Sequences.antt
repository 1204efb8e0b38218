-- A sequence at first, and what a commit, a rollback and a draw make of it.
use Rattle.std.specs.Prelude.{pos, ◌+ℤ◌}
use Rattle.ur_keeper.specs.declared.sequence.Sequence.{Sequence}

abbrev pub first_draw : Sequence
first_draw = record { saved = pos 1; current = pos 1 }

abbrev pub committed_sequence : Sequence → Sequence
committed_sequence s = record { saved = s.current; current = s.current }

abbrev pub rolled_back_sequence : Sequence → Sequence
rolled_back_sequence s = record { saved = s.saved; current = s.saved }

abbrev pub drawn_sequence : Sequence → Sequence
drawn_sequence s = record { saved = s.saved; current = s.current +ℤ pos 1 }
