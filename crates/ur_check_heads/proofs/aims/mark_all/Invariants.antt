use Rattle.std.proofs.Common.{◌≡◌, drop}
use Rattle.ur_check_heads.specs.Aims.{linked_by}
use Rattle.ur_check_heads.proofs.aims.mark_all.Given as goal

abbrev pub invariant-loop-i : goal.invariant-loop-i
invariant-loop-i l = linked_by (drop l.i l.numbers) l.aims ≡ linked_by l.numbers l.initial.aims
