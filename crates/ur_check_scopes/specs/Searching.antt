-- How a name is looked for among the names that expressions bind.
use Rattle.std.specs.Prelude.{ℕ, ◌+◌, Bool, true, false, List, [], ◌++◌, map, Option, Some}
use Rattle.ur_rows.specs.declared.normal.NormalType.{NormalType}
use Rattle.ur_typed_rules.specs.Names.{Local}
use Rattle.ur_check_scopes.specs.declared.locals.Local.{Local as HeldLocal}
use Rattle.ur_check_scopes.specs.declared.locals.Place.{Place}
use Rattle.ur_check_scopes.specs.declared.locals.Before.{Before}
use Rattle.ur_check_scopes.specs.declared.locals.Sought.{Sought}
use Rattle.ur_check_scopes.specs.declared.locals.Sought.TheVariants as sought
use Rattle.ur_check_scopes.specs.Views.{StandsFor, local_in, of_variables, of_fixed}

-- one local more stands before
abbrev pub past : Bool → Before → Before
past true b = record { variables = b.variables; fixed = b.fixed + 1 }
past false b = record { variables = b.variables + 1; fixed = b.fixed }

-- the types of variables, of which none is seen behind a lambda
abbrev pub visible : Bool → List NormalType → List NormalType
visible true values = []
visible false values = values

-- what a name stands for among the names of one binder and those around it
abbrev pub InOwn : List ℕ → Before → Bool → List HeldLocal → List Local → List NormalType → List NormalType → Option Place → Type 0
InOwn x b hidden own names values fixed found = StandsFor x b.variables b.fixed (map local_in own ++ names) (visible hidden (of_variables own ++ values)) (of_fixed own ++ fixed) found

-- it stands among those of the binder, or it is what it is among those around
abbrev pub SoughtIn : List ℕ → Before → Bool → List HeldLocal → Sought → Type 0
SoughtIn x b hidden own (sought.Here p) = (names : List Local) (values fixed : List NormalType) → InOwn x b hidden own names values fixed (Some p)
SoughtIn x b hidden own (sought.Behind c) = (names : List Local) (values fixed : List NormalType) (found : Option Place) →
    StandsFor x c.variables c.fixed names (visible hidden values) fixed found → InOwn x b hidden own names values fixed found
