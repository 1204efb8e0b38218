-- The typing of a change.
use Rattle.std.specs.Prelude.{◌≡◌, ℕ, nat_eq, if◌then◌else◌, List, [], ◌∷◌, map, length, Option, Some, None, option_map, option_and_then}
use Rattle.std.specs.List.{IsDistinct}
use Rattle.ur_syntax.specs.declared.sql.DeclName.{DeclName}
use Rattle.ur_syntax.specs.declared.sql.SqlExp.{SqlExp}
use Rattle.ur_syntax.specs.declared.sql.Assignment.{Assignment}
use Rattle.ur_syntax.specs.declared.sql.SqlChange.{SqlChange}
use Rattle.ur_syntax.specs.declared.sql.SqlChange.TheVariants as written
use Rattle.ur_values.specs.declared.schema.ColumnKind.{ColumnKind}
use Rattle.ur_values.specs.declared.schema.ColumnKind.TheVariants as kind
use Rattle.ur_values.specs.declared.schema.TableShape.{TableShape}
use Rattle.ur_values.specs.declared.schema.Schema.{Schema}
use Rattle.ur_values.specs.Store.{kinds_of}
use Rattle.ur_sql.specs.declared.scalar.Scalar.{Scalar}
use Rattle.ur_sql.specs.declared.change.Change.{Change}
use Rattle.ur_sql.specs.declared.change.Action.{Action}
use Rattle.ur_sql.specs.declared.change.Action.TheVariants as action
use Rattle.ur_tree.specs.FieldNames.{capital}
use Rattle.ur_sqltype.specs.declared.scope.Within.{Within}
use Rattle.ur_sqltype.specs.Scope.{column_of}
use Rattle.ur_sqltype.specs.Expression.{valued}
use Rattle.ur_sqltype.specs.Tables.{table_at}
use Rattle.ur_sqltype.specs.Lists.{all_of, maybe, repeated}
use Rattle.ur_sqltype.specs.Choice.{if_none}
use Rattle.ur_sqltype.specs.Query.{of_kind}

-- within INSERT no column stands
abbrev pub within_insert : List ColumnKind → Within
within_insert antiquotes = record { sources = []; bare = []; antiquotes = antiquotes }

-- within UPDATE and DELETE the columns stand bare, or after the table's name
abbrev pub within_row : DeclName → ℕ × TableShape → List ColumnKind → Within
within_row x t antiquotes = record { sources = record { alias = capital x.name; table = t.0; columns = t.1.columns } ∷ []; bare = t.1.columns; antiquotes = antiquotes }

abbrev pub set_of : Within → SqlExp → ℕ × ColumnKind → Option (ℕ × Scalar)
set_of w e c = option_map (λ x. (c.0, x)) (valued c.1 w e)

-- a column and its value, which has the column's type, or is NULL where the column is optional
abbrev pub set_at : Within → List (List ℕ × ColumnKind) → List ℕ × SqlExp → Option (ℕ × Scalar)
set_at w columns p = option_and_then (set_of w p.1) (column_of p.0 columns)

abbrev pub paired : List (List ℕ) → List SqlExp → List (List ℕ × SqlExp)
paired [] es = []
paired (a ∷ others) [] = []
paired (a ∷ others) (e ∷ es) = (a, e) ∷ paired others es

abbrev pub assigned : Assignment → List ℕ × SqlExp
assigned s = (s.column, s.value)

-- the column of a set, by its place
abbrev pub set_number : ℕ × Scalar → ℕ
set_number s = s.0

abbrev pub once_set : List (ℕ × Scalar) → Option (List (ℕ × Scalar))
once_set sets = if_none (repeated nat_eq (map set_number sets)) sets

-- the columns with their values, none twice
abbrev pub sets_of : Within → List (List ℕ × ColumnKind) → List (List ℕ × SqlExp) → Option (List (ℕ × Scalar))
sets_of w columns ps = option_and_then once_set (all_of (set_at w columns) ps)

-- an INSERT sets each column
abbrev pub inserting : TableShape → List (List ℕ) → List (ℕ × Scalar) → Option Action
inserting shape columns sets = if nat_eq (length columns) (length shape.columns) then Some (action.Insert sets) else None

abbrev pub complete_of : List ColumnKind → TableShape → List (List ℕ) → List SqlExp → Option Action
complete_of antiquotes shape columns values = option_and_then (inserting shape columns) (sets_of (within_insert antiquotes) shape.columns (paired columns values))

-- it has as many values as columns
abbrev pub insert_of : List ColumnKind → TableShape → List (List ℕ) → List SqlExp → Option Action
insert_of antiquotes shape columns values = if nat_eq (length columns) (length values) then complete_of antiquotes shape columns values else None

abbrev pub condition_of : Within → Option SqlExp → Option (Option Scalar)
condition_of w condition = maybe (of_kind kind.Bool w) condition

abbrev pub updating : Within → Option SqlExp → List (ℕ × Scalar) → Option Action
updating w condition sets = option_map (action.Update sets) (condition_of w condition)

abbrev pub update_of : Within → TableShape → List Assignment → Option SqlExp → Option Action
update_of w shape assignments condition = option_and_then (updating w condition) (sets_of w shape.columns (map assigned assignments))

-- what a change does
abbrev pub action_of : List ColumnKind → ℕ × TableShape → SqlChange → Option Action
action_of antiquotes t (written.Insert span x columns values) = insert_of antiquotes t.1 columns values
action_of antiquotes t (written.Update span x assignments condition) = update_of (within_row x t antiquotes) t.1 assignments condition
action_of antiquotes t (written.Delete span x condition) = option_map action.Delete (condition_of (within_row x t antiquotes) condition)

abbrev pub target_of : SqlChange → DeclName
target_of (written.Insert span x columns values) = x
target_of (written.Update span x assignments condition) = x
target_of (written.Delete span x condition) = x

abbrev pub change_with : List ColumnKind → ℕ × TableShape → Action → Change
change_with antiquotes t a = record { params = antiquotes; table = t.0; columns = kinds_of t.1; action = a }

abbrev pub change_at : List ColumnKind → SqlChange → ℕ × TableShape → Option Change
change_at antiquotes u t = option_map (change_with antiquotes t) (action_of antiquotes t u)

-- The core change of what is written in module `m`, over the tables and with these types of its antiquotes; none where a rule is
-- broken.
unfoldable pub change_of : List ℕ → Schema → List ColumnKind → SqlChange → Option Change
change_of m tables antiquotes u = option_and_then (change_at antiquotes u) (table_at m tables (target_of u))

-- no column is set twice, and INSERT sets each
abbrev pub SetsWell : TableShape → Action → Type 0
SetsWell shape (action.Insert sets) = IsDistinct nat_eq (map set_number sets) × (length sets ≡ length shape.columns)
SetsWell shape (action.Update sets condition) = IsDistinct nat_eq (map set_number sets)
SetsWell shape (action.Delete condition) = Unit {0}

-- The change, in module `m`, over the tables and with these types of its antiquotes, stands for the core change.
pub record IsChange (m : List ℕ) (tables : Schema) (antiquotes : List ColumnKind) (u : SqlChange) (core : Change) : Type 0 where
  pub shape : TableShape
  pub target : table_at m tables (target_of u) ≡ Some (core.table, shape)
  pub params : core.params ≡ antiquotes
  pub columns : core.columns ≡ kinds_of shape
  pub acts : action_of antiquotes (core.table, shape) u ≡ Some core.action
  pub well : SetsWell shape core.action

-- what the function answers is the core
abbrev pub StatedIsChange : Type 0
StatedIsChange = (m : List ℕ) (tables : Schema) (antiquotes : List ColumnKind) (u : SqlChange) (core : Change) → change_of m tables antiquotes u ≡ Some core → IsChange m tables antiquotes u core
