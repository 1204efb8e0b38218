use Rattle.std.proofs.Common.{◌≡◌, drop}
use Rattle.std.specs.List.{list_all}
use Rattle.ur_typed_rules.specs.Tests.{same_type}
use Rattle.ur_check_forms.specs.Views.{records_in}
use Rattle.ur_check_forms.proofs.marked.are_taken.Given as goal

abbrev pub invariant-loop-i : goal.invariant-loop-i
invariant-loop-i l = list_all (same_type l.whole) (records_in (drop l.i l.waiting)) ≡ list_all (same_type l.whole) (records_in l.waiting)
