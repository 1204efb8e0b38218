-- What is said of typed expressions.
use Rattle.std.specs.Prelude.{◌≡◌, ◌++◌, ℕ, true, List, [], ◌∷◌, length, map, Option, Some, None, slice_get, ⊤}
use Rattle.ur_syntax.specs.declared.exp.ExpForm.{ExpForm}
use Rattle.ur_rows.specs.declared.normal.Normal.{Normal}
use Rattle.ur_rows.specs.declared.normal.NormalType.{NormalType}
use Rattle.ur_sql.specs.declared.query.Query.{Query}
use Rattle.ur_sql.specs.declared.change.Change.{Change}
use Rattle.ur_tree.specs.QueryRow.{query_row}
use Rattle.ur_tree.specs.declared.exp.Exp.{Exp}
use Rattle.ur_tree.specs.declared.typed.ConParam.{ConParam}
use Rattle.ur_tree.specs.Env.{Env, AreArguments}
use Rattle.ur_tree.specs.Typing.{Finds, Checks, Accepts}
use Rattle.ur_tree.specs.Occurrences.{Occurrence, occurrences}
use Rattle.ur_typed.specs.Resolves.{Statements, Resolves}
use Rattle.ur_typed.specs.Typed.{sites_in, updates_in, CountsFrom}
use Rattle.ur_typed_rules.specs.Scopes.{World, Scope, Mode, finds, wants}
use Rattle.ur_typed_rules.specs.Tests.{same_type, are_arguments}
use Rattle.ur_typed.specs.Rules.{Sites, Out}
use Rattle.ur_typed.specs.Walking.{typed}

-- types whose written forms are the same are equal
abbrev pub AreTold : Type 0
AreTold = (t u : NormalType) → same_type t u ≡ true → t ≡ u

-- arguments which pass the test are arguments
abbrev pub ArgumentsAreTold : Type 0
ArgumentsAreTold = (env : Env) (cons : List ConParam) (args : List Normal) → are_arguments env cons args ≡ true → AreArguments env cons args

-- ---- statements

-- each statement that stands in its place is the project's, and the names of fields are too
pub record Fills (w : World) (d : Statements) (st : Sites) : Type 0 where
  pub names : d.names ≡ w.fields
  pub queries : (n : ℕ) (q : Query) → slice_get st.queries n ≡ Some (Some q) → slice_get d.queries n ≡ Some q
  pub changes : (n : ℕ) (u : Change) → slice_get st.changes n ≡ Some (Some u) → slice_get d.changes n ≡ Some u

-- what the project declares, with the queries and changes of all its expressions
abbrev pub stated : Statements → World → World
stated d w = record w { declared = record w.declared { queries = map (λ q. (q.params, query_row w.fields q)) d.queries; changes = map (λ u. u.params) d.changes } }

-- a statement stands in each place
abbrev pub AreFilled : {A : Type 0} → List (Option A) → Type 0
AreFilled [] = ⊤
AreFilled (None ∷ xs) = ⊥
AreFilled (Some a ∷ xs) = AreFilled xs

-- The statements `su` are those before and those of the occurrences, which are numbered in order, none left out, and each stands in its place.
pub record Numbered (st : Sites) (os : List Occurrence) (su : Sites) : Type 0 where
  pub queries : List (Option Query)
  pub changes : List (Option Change)
  pub all_queries : su.queries ≡ st.queries ++ queries
  pub all_changes : su.changes ≡ st.changes ++ changes
  pub filled_queries : AreFilled queries
  pub filled_changes : AreFilled changes
  pub sites : CountsFrom (length st.queries) (sites_in os)
  pub updates : CountsFrom (length st.changes) (updates_in os)
  pub how_many_sites : length (sites_in os) ≡ length queries
  pub how_many_updates : length (updates_in os) ≡ length changes

-- ---- soundness

-- the resolved expression is found to have the type, or checks against the wanted one
abbrev pub Judged : World → Scope → Mode → Exp → NormalType → Type 0
Judged w s finds x t = Finds w.declared w.most s.env x t × Accepts w.most x t
Judged w s (wants u) x t = (t ≡ u) × Checks w.declared w.most s.env x u × Accepts w.most x u

-- what the walk gives of an expression resolves, is judged so, and its statements are numbered in order
pub record IsSound (w : World) (x : ExpForm) (s : Scope) (st : Sites) (m : Mode) (d : Statements) (o : Out) : Type 0 where
  pub before : Fills w d st
  pub resolves : Resolves d w.most w.globals (stated d w).declared s.names x o.exp
  pub judged : Judged (stated d w) s m o.exp o.of
  pub numbered : Numbered st (occurrences o.exp) o.sites

abbrev pub Sound : World → ExpForm → Type 0
Sound w x = (s : Scope) (st : Sites) (m : Mode) (o : Out) → typed w x s st m ≡ Some o → (d : Statements) → Fills w d o.sites → IsSound w x s st m d o

-- What is typed resolves, has its type by the rules, and numbers its statements in order.
abbrev pub TypedIsSound : Type 0
TypedIsSound = (w : World) (x : ExpForm) → Sound w x
