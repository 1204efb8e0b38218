use Rattle.std.proofs.Common.{◌≡◌, drop}
use Rattle.ur_tree.specs.Patterns.{tags_from}
use Rattle.ur_check_cases.specs.Binding.{variants_in}
use Rattle.ur_check_cases.specs.Covering.{patterns_in, first_missing}
use Rattle.ur_check_cases.proofs.coverage.missing_of_datatype.Given as goal

abbrev pub invariant-loop-i : goal.invariant-loop-i
invariant-loop-i l = first_missing (tags_from l.datatype l.number (variants_in (drop l.i l.variants))) (patterns_in l.branches) ≡ first_missing (tags_from l.datatype 0 (variants_in l.variants)) (patterns_in l.branches)
