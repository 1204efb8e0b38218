-- Statements that fit the tables that are declared.
use Rattle.std.specs.Prelude.{◌≡◌, ℕ, List, ◌++◌, map, All, Option, Some, IfSome}
use Rattle.ur_values.specs.declared.schema.TableShape.{TableShape}
use Rattle.ur_values.specs.declared.schema.Schema.{Schema}
use Rattle.ur_syntax.specs.declared.decl.Module.{Module}
use Rattle.ur_syntax.specs.declared.decl.Signature.{Signature}
use Rattle.ur_syntax.specs.declared.exp.ExpForm.{ExpForm}
use Rattle.ur_sql.specs.declared.query.Query.{Query}
use Rattle.ur_sql.specs.declared.change.Change.{Change}
use Rattle.ur_sql.specs.Typing.{QueryFits, ChangeFits}
use Rattle.ur_typed_rules.specs.Scopes.{World, Scope, Mode}
use Rattle.ur_typed.specs.Rules.{Sites, Out}
use Rattle.ur_typed.specs.Walking.{typed}
use Rattle.ur_typed.specs.Typed.{nothing_declared}
use Rattle.ur_typed.specs.Declaring.{Checked, nothing_yet, project_out}

-- The second schema has the tables of the first, and more behind them.
pub record Begins (tables after : Schema) : Type 0 where
  pub more : List TableShape
  pub are : after.tables ≡ tables.tables ++ more

-- What fits a schema fits one with more tables behind.
abbrev pub QueryFitsMore : Type 0
QueryFitsMore = (tables after : Schema) (q : Query) → Begins tables after → QueryFits tables q → QueryFits after q

abbrev pub ChangeFitsMore : Type 0
ChangeFitsMore = (tables after : Schema) (u : Change) → Begins tables after → ChangeFits tables u → ChangeFits after u

-- Each statement that stands in its place fits the tables.
pub record SitesFit (tables : Schema) (st : Sites) : Type 0 where
  pub queries : All (λ q. IfSome q (QueryFits tables)) st.queries
  pub changes : All (λ u. IfSome u (ChangeFits tables)) st.changes

-- Where the statements before an expression fit the tables that it sees, those behind it do.
abbrev pub StatementsFit : Type 0
StatementsFit = (w : World) (x : ExpForm) (s : Scope) (st : Sites) (m : Mode) (o : Out) → typed w x s st m ≡ Some o → SitesFit w.globals.tables st → SitesFit w.globals.tables o.sites

-- The statements of a whole project fit the schema with its tables.
abbrev pub ProjectStatementsFit : Type 0
ProjectStatementsFit = (most : ℕ) (fields names : List (List ℕ)) (modules : List Module) (signature : Option Signature) (behind : Checked) (entries : List ℕ) (schema : Schema) (queries : List Query) (changes : List Change) →
    project_out most (nothing_yet (nothing_declared fields)) names modules signature ≡ Some (behind, entries) →
    schema.tables ≡ behind.0.place.globals.tables.tables → map (λ q. Some q) queries ≡ behind.1.sites.queries → map (λ u. Some u) changes ≡ behind.1.sites.changes →
    All (QueryFits schema) queries × All (ChangeFits schema) changes
