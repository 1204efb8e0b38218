-- What breaks the rules of queries and changes, and what is asked by a query.
use Rattle.std.specs.Prelude.{◌≡◌, ℕ, nat_le, Bool, true, false, List, [], ◌∷◌, Option, Some, None, is_some}
use Rattle.std.specs.List.{list_all}
use Rattle.ur_base.specs.declared.refusal.Refusal.{Refusal}
use Rattle.ur_syntax.specs.declared.con.Con.{Con}
use Rattle.ur_syntax.specs.declared.sql.SqlQuery.{SqlQuery}
use Rattle.ur_syntax.specs.declared.sql.SqlChange.{SqlChange}
use Rattle.ur_values.specs.declared.schema.ColumnKind.{ColumnKind}
use Rattle.ur_sql.specs.declared.query.Query.{Query}
use Rattle.ur_rows.specs.declared.normal.Normal.{Normal}
use Rattle.ur_rows.specs.declared.normal.NormalType.{NormalType}
use Rattle.ur_rows.specs.declared.normal.Part.{Part}
use Rattle.ur_rows.specs.Nodes.{nodes}
use Rattle.ur_rows.specs.Normal.{nf}
use Rattle.ur_rows.specs.Put.{as_type}
use Rattle.ur_tree.specs.QueryRow.{query_row}
use Rattle.ur_sqltype.specs.Lists.{all_of}
use Rattle.ur_sqltype.specs.Table.{column_type_kind}
use Rattle.ur_sqltype.specs.Antiquotes.{found_kind}
use Rattle.ur_sqltype.specs.SqltypeFaults.{QueryHasFault, ChangeHasFault}
use Rattle.ur_typed_rules.specs.Scopes.{World, Scope}
use Rattle.ur_typed_rules.specs.Tests.{same_type}
use Rattle.ur_typed_rules.specs.Faults.{Fault, as_refused, too_large, types_differ}
use Rattle.ur_typed.specs.Rules.{Sites, Antiquotes, query_at, with_query}
use Rattle.ur_typed.specs.Causes.{IsNoKind, no_kind}

-- what is found of an antiquote is int, string, bool or an option of these
abbrev pub is_kind : Normal → Bool
is_kind n = is_some (found_kind n)

abbrev pub are_kinds : List Normal → Bool
are_kinds = list_all is_kind

-- an antiquote has another type
pub data IsOtherKind (names : List (List ℕ)) (ts : List NormalType) : Fault → Type 0 where
  other_kind : {t : NormalType} → IsNoKind ts t → IsOtherKind names ts (no_kind names t)

-- a query with these antiquotes breaks its rules
pub data BreaksQuery (names : List (List ℕ)) (w : World) (q : SqlQuery) (a : Antiquotes) : Fault → Type 0 where
  of_other_kind : {f : Fault} → IsOtherKind names a.types f → BreaksQuery names w q a f
  of_its_own : {kinds : List ColumnKind} {r : Refusal} → all_of column_type_kind a.types ≡ Some kinds →
      QueryHasFault w.globals.home w.globals.tables w.fields kinds q r → BreaksQuery names w q a (as_refused r)

-- a change with these antiquotes breaks its rules
pub data BreaksChange (names : List (List ℕ)) (w : World) (u : SqlChange) (a : Antiquotes) : Fault → Type 0 where
  of_other_type : {f : Fault} → IsOtherKind names a.types f → BreaksChange names w u a f
  of_change : {kinds : List ColumnKind} {r : Refusal} → all_of column_type_kind a.types ≡ Some kinds →
      ChangeHasFault w.globals.home w.globals.tables kinds u r → BreaksChange names w u a (as_refused r)

-- The query stands for a core query, which takes its place among those that are numbered, and its answers have this row.
pub record IsAsked (w : World) (q : SqlQuery) (a : Antiquotes) (at : ℕ) (row : List Part) (after : Sites) : Type 0 where
  pub core : Query
  pub stands : query_at w q a ≡ Some core
  pub row_is : row ≡ query_row w.fields core
  pub kept : after ≡ with_query at core a.sites

-- the type that is written is the one of the answer's records
pub record IsRowType (w : World) (s : Scope) (c : Con) (u : NormalType) : Type 0 where
  pub small : nat_le (nodes (nf s.names.cons c)) w.most ≡ true
  pub same : same_type (as_type (nf s.names.cons c)) u ≡ true

-- the type that is written is too large, or another one
pub data BreaksRowType (names : List (List ℕ)) (w : World) (s : Scope) (c : Con) (u : NormalType) : Fault → Type 0 where
  large_there : nat_le (nodes (nf s.names.cons c)) w.most ≡ false → BreaksRowType names w s c u too_large
  differs_there : same_type (as_type (nf s.names.cons c)) u ≡ false → BreaksRowType names w s c u (types_differ names (as_type (nf s.names.cons c)) u)

-- the only element of a list
abbrev pub only : {A : Type 0} → List A → Option A
only (x ∷ []) = Some x
only _ = None
