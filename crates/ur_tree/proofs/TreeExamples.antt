-- Small expressions with their types.
use Rattle.std.proofs.Common.{◌≡◌, refl, true, false, [], ◌∷◌, Some, None, arith}
use Rattle.std.specs.Prelude.{pos}
use Rattle.ur_terms.specs.declared.term.Pattern.TheVariants as pattern
use Rattle.ur_rows.specs.declared.normal.NormalType.TheVariants as ty
use Rattle.ur_rows.specs.Types.{option_of}
use Rattle.ur_tree.specs.declared.exp.Exp.TheVariants as exp
use Rattle.ur_tree.specs.declared.exp.Unary.TheVariants as unary
use Rattle.ur_tree.specs.declared.exp.Binary.TheVariants as binary
use Rattle.ur_tree.specs.Make as make
use Rattle.ur_tree.specs.Heads.{Declared}
use Rattle.ur_tree.specs.App.{nothing_in_scope}
use Rattle.ur_tree.specs.IsStatic.{wants_type}
use Rattle.ur_tree.specs.Patterns.{bound_by, has_all, constructors_of, last_is_any}
use Rattle.ur_tree.specs.Typing.{Finds, Checks}

abbrev nothing_declared : Declared
nothing_declared = record { variants = []; cookies = []; vals = []; functions = []; sequences = 0; queries = []; changes = [] }

-- `1 + 2`
sum : Finds nothing_declared 10 nothing_in_scope (make.binary binary.Add (exp.Int (pos 1)) (exp.Int (pos 2))) ty.Int
sum = (refl, (refl, (omega arith, refl, refl)), (refl, (omega arith, refl, refl)))

-- `Some None` has no found type, and none is found of it in a form
without_type : wants_type (make.unary unary.Present (exp.Absent ty.Int)) ≡ true
without_type = refl

-- `None` checks against an option
absent : Checks nothing_declared 10 nothing_in_scope (exp.Absent (option_of ty.Int)) (option_of ty.Int)
absent = (refl, (ty.Int, refl))

-- `Some x` at an option of int binds an int, and at a bool it does not stand
present_binds : bound_by nothing_declared (option_of ty.Int) pattern.Present ≡ Some (ty.Int ∷ [])
present_binds = refl

present_misfits : bound_by nothing_declared ty.Bool pattern.Present ≡ None
present_misfits = refl

both_bools : has_all (constructors_of nothing_declared ty.Bool) (pattern.Bool false ∷ pattern.Bool true ∷ []) ≡ true
both_bools = refl

-- a `_` before another pattern is not last
early : last_is_any (pattern.Any ∷ pattern.Int (pos 1) ∷ []) ≡ false
early = refl
