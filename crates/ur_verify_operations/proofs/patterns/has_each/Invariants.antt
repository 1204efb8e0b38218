-- There is a branch for each constructor so far.
use Rattle.std.proofs.Common.{◌≡◌, ◌<◌, ℕ, Contains, Option, Some}
use Rattle.std.specs.Prelude.{slice_get}
use Rattle.ur_values.specs.declared.types.ValueType.{ValueType}
use Rattle.ur_terms.specs.declared.term.Pattern.TheVariants as p
use Rattle.ur_verify_operations.specs.Wanting.{patterns_in}
use Rattle.ur_verify_operations.proofs.patterns.has_each.Given as goal

abbrev pub invariant-loop-i : goal.invariant-loop-i
invariant-loop-i l = (c : ℕ) (arg : Option ValueType) → c < l.i → slice_get l.variants c ≡ Some (l.datatype, arg) → Contains (patterns_in l.branches) (p.Tagged c)
