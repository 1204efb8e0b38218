-- What an expression stands for has its kind in the core.
use Rattle.std.specs.Prelude.{◌≡◌, ◌⊎◌, ℕ, List, [], ◌∷◌, map, Some}
use Rattle.ur_syntax.specs.declared.sql.SqlExp.{SqlExp}
use Rattle.ur_syntax.specs.declared.sql.SqlForm.{SqlForm}
use Rattle.ur_values.specs.declared.schema.ColumnKind.{ColumnKind}
use Rattle.ur_sql.specs.declared.scalar.Scalar.{Scalar}
use Rattle.ur_sql.specs.Typing.{Kinds, HasKind}
use Rattle.ur_sqltype.specs.declared.scope.Source.{Source}
use Rattle.ur_sqltype.specs.declared.scope.Within.{Within}
use Rattle.ur_sqltype.specs.Expression.{kinded, valued}

-- the kinds of a source's columns
abbrev pub kinds_of_source : Source → List ColumnKind
kinds_of_source s = map (λ c. c.1) s.columns

-- the kinds that the core reads: those of the antiquotes, and those of the columns of each item
abbrev pub kinds_within : Within → Kinds
kinds_within w = record { params = w.antiquotes; items = map kinds_of_source w.sources }

abbrev pub first_columns : List Source → List (List ℕ × ColumnKind)
first_columns [] = []
first_columns (s ∷ rest) = s.columns

-- no column stands bare, or those of the one row do
abbrev pub BareStand : Within → Type 0
BareStand w = (w.bare ≡ []) ⊎ (w.bare ≡ first_columns w.sources)

-- what is typed has its kind
abbrev pub KindedFits : Type 0
KindedFits = (w : Within) → BareStand w → (e : SqlForm) (x : Scalar) (k : ColumnKind) → kinded w e ≡ Some (x, k) → HasKind (kinds_within w) x k

-- what is given to a column has its kind
abbrev pub ValuedFits : Type 0
ValuedFits = (w : Within) → BareStand w → (k : ColumnKind) (e : SqlExp) (x : Scalar) → valued k w e ≡ Some x → HasKind (kinds_within w) x k
