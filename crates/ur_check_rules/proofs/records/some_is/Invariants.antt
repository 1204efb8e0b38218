use Rattle.std.proofs.Common.{◌≡◌, drop}
use Rattle.std.specs.List.{list_any}
use Rattle.ur_typed_rules.specs.Names.{is_named}
use Rattle.ur_check_rules.specs.Written.{written_names}
use Rattle.ur_check_rules.proofs.records.some_is.Given as goal

abbrev pub invariant-loop-i : goal.invariant-loop-i
invariant-loop-i l = list_any (is_named l.name) (written_names (drop l.i l.fields)) ≡ list_any (is_named l.name) (written_names l.fields)
