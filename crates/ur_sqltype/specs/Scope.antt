-- Names of SQL: aliases and columns.
use Rattle.std.specs.Prelude.{ℕ, ◌+◌, if◌then◌else◌, List, [], ◌∷◌, Option, Some, None, option_map, option_and_then, bytes_eq}
use Rattle.ur_tree.specs.FieldNames.{capital}
use Rattle.ur_values.specs.declared.schema.ColumnKind.{ColumnKind}
use Rattle.ur_sqltype.specs.declared.scope.Source.{Source}

-- the first of that name, with its place counted from one number on
abbrev pub named_from : {A B : Type 0} → (A → List ℕ) → (A → B) → List ℕ → ℕ → List A → Option (ℕ × B)
named_from name of x i [] = None
named_from name of x i (a ∷ rest) = if bytes_eq (name a) x then Some (i, of a) else named_from name of x (i + 1) rest

abbrev pub named_at : {A B : Type 0} → (A → List ℕ) → (A → B) → List ℕ → List A → Option (ℕ × B)
named_at name of x list = named_from name of x 0 list

-- a column of that name, by its place, with its type
abbrev pub column_of : List ℕ → List (List ℕ × ColumnKind) → Option (ℕ × ColumnKind)
column_of a = named_at (λ c. c.0) (λ c. c.1) a

-- the column of that name of the item with that alias, counted from one number on
abbrev pub column_from : List ℕ → List ℕ → ℕ → List Source → Option (ℕ × (ℕ × ColumnKind))
column_from alias a i sources = option_and_then (λ s. option_map (λ c. (s.0, c)) (column_of a s.1)) (named_from (λ s. s.alias) (λ s. s.columns) alias i sources)

-- the column of that name of the item whose alias is the qualifier with its first letter made a capital
abbrev pub column_at : List ℕ → List ℕ → List Source → Option (ℕ × (ℕ × ColumnKind))
column_at q a sources = column_from (capital q) a 0 sources
