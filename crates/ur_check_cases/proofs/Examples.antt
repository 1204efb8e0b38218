-- What a few patterns bind, and which patterns cover a type.
use Rattle.std.proofs.Common.{◌≡◌, refl, true, false, [], ◌∷◌, Some, None}
use Rattle.std.specs.Prelude.{pos, codes}
use Rattle.ur_syntax.specs.Names.{member}
use Rattle.ur_syntax.specs.declared.exp.Argument.TheVariants as argument
use Rattle.ur_syntax.specs.declared.exp.Binder.TheVariants as binder
use Rattle.ur_syntax.specs.declared.exp.PatForm.TheVariants as pat
use Rattle.ur_terms.specs.declared.term.Pattern.TheVariants as pattern
use Rattle.ur_rows.specs.declared.normal.NormalType.TheVariants as ty
use Rattle.ur_rows.specs.Made.{option_of, list_of}
use Rattle.ur_tree.specs.Heads.{Declared}
use Rattle.ur_typed_rules.specs.Names.{Globals, value}
use Rattle.ur_typed_rules.specs.Scopes.{World}
use Rattle.ur_typed_rules.specs.Tests.{covers, are_distinct}
use Rattle.ur_typed_rules.specs.Rules.{pattern_of, bound_in}

-- `datatype shape = Point | Round of int` in module `M`, and nothing else
abbrev shapes : Globals
shapes = record { home = codes "M"; values = []; constructors = (member (codes "M") (codes "Round"), 1) ∷ (member (codes "M") (codes "Point"), 0) ∷ []; sequences = []; cookies = []; tables = record { tables = []; sequences = [] } }

abbrev kinds : Declared
kinds = record { variants = (0, None) ∷ (0, Some ty.Int) ∷ []; cookies = []; vals = []; functions = []; sequences = 0; queries = []; changes = [] }

abbrev world : World
world = record { globals = shapes; declared = kinds; fields = []; most = 65536 }

-- ---- what a pattern is

-- `Round n` is the constructor 1, with one variable
round_named : pattern_of shapes (pat.Constructor (codes "Round") (argument.Bound (binder.Named (codes "n")))) ≡ Some (value (Some (codes "n")) ∷ [], pattern.Tagged 1)
round_named = refl

-- `M.Round n` is no name within `M` itself
round_of_itself : pattern_of shapes (pat.Member (codes "M") (codes "Round") argument.Absent) ≡ None
round_of_itself = refl

-- no constructor is called `Square`
square_unknown : pattern_of shapes (pat.Constructor (codes "Square") argument.Absent) ≡ None
square_unknown = refl

-- ---- what it binds

-- `Round n` binds an int
round_binds : bound_in world (ty.Datatype 0) (value (Some (codes "n")) ∷ [], pattern.Tagged 1) ≡ Some (ty.Int ∷ [])
round_binds = refl

-- `Round` without a variable stands for no shape, and neither does `Point p`
round_bare : bound_in world (ty.Datatype 0) ([], pattern.Tagged 1) ≡ None
round_bare = refl

point_with : bound_in world (ty.Datatype 0) (value (Some (codes "p")) ∷ [], pattern.Tagged 0) ≡ None
point_with = refl

-- `Round n` stands for no int
round_of_int : bound_in world ty.Int (value (Some (codes "n")) ∷ [], pattern.Tagged 1) ≡ None
round_of_int = refl

-- `x :: rest` binds an element and a list
cons_binds : bound_in world (list_of ty.Int) (value (Some (codes "x")) ∷ value (Some (codes "rest")) ∷ [], pattern.Cons) ≡ Some (ty.Int ∷ list_of ty.Int ∷ [])
cons_binds = refl

-- the two names of `x :: x` are not distinct, and those of `_ :: _` are
same_twice : are_distinct (value (Some (codes "x")) ∷ value (Some (codes "x")) ∷ []) ≡ false
same_twice = refl

bare_twice : are_distinct (value None ∷ value None ∷ []) ≡ true
bare_twice = refl

-- ---- what patterns cover

-- both constructors of a shape
both_cover : covers kinds (ty.Datatype 0) (pattern.Tagged 1 ∷ pattern.Tagged 0 ∷ []) ≡ true
both_cover = refl

-- one of them lacks, or comes twice
one_lacks : covers kinds (ty.Datatype 0) (pattern.Tagged 1 ∷ []) ≡ false
one_lacks = refl

one_twice : covers kinds (ty.Datatype 0) (pattern.Tagged 1 ∷ pattern.Tagged 0 ∷ pattern.Tagged 1 ∷ []) ≡ false
one_twice = refl

-- without branches nothing is covered, also where there is no constructor
none_cover : covers kinds (ty.Datatype 1) [] ≡ false
none_cover = refl

-- a `_` covers what lacks where it is the last, and not before another pattern
any_last : covers kinds ty.Int (pattern.Int (pos 1) ∷ pattern.Any ∷ []) ≡ true
any_last = refl

any_early : covers kinds (ty.Datatype 0) (pattern.Any ∷ pattern.Tagged 1 ∷ []) ≡ false
any_early = refl

-- no numbers are all ints
ints_lack : covers kinds ty.Int (pattern.Int (pos 0) ∷ pattern.Int (pos 1) ∷ []) ≡ false
ints_lack = refl

options_cover : covers kinds (option_of ty.Int) (pattern.Present ∷ pattern.Absent ∷ []) ≡ true
options_cover = refl
