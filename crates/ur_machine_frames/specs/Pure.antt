-- Code without operations on tables.
use Rattle.std.specs.Prelude.{◌≡◌, ◌≢◌, ℕ, List, [], Some, slice_get}
use Rattle.std.specs.Borrow.{Bor}
use Rattle.ur_values.specs.declared.value.Value.{Value}
use Rattle.ur_values.specs.Sql.{Sql}
use Rattle.ur_values.specs.Store.{Store}
use Rattle.ur_terms.specs.declared.term.Op.{Op}
use Rattle.ur_terms.specs.declared.term.Function.{Function}
use Rattle.ur_terms.specs.declared.term.Term.{Term, Row_of-Term, end_of-Term, more_of-Term, Row_of-Branch, end_of-Branch, more_of-Branch}
use Rattle.ur_terms.specs.declared.term.Term.TheVariants as t
use Rattle.ur_terms.specs.State.{State, Stuck}
use Rattle.ur_terms.specs.Ops.{does}
use Rattle.ur_terms.specs.Run.{Does, outcome_of}
use Rattle.ur_machine_frames.specs.declared.frame.Frames.{Frames}
use Rattle.ur_machine_frames.specs.declared.control.Pause.TheVariants as pause
use Rattle.ur_machine_frames.specs.Plays.{Plays, IsLocal, until, held, no_store}
use Rattle.ur_machine_frames.specs.Steps.{ComesTo}

-- no operation on tables stands in the term
abbrev mutual
  pub IsPure : Term → Type 0
  IsPure (t.Variable i) = Unit {0}
  IsPure (t.Int i) = Unit {0}
  IsPure (t.Str s) = Unit {0}
  IsPure (t.Bool b) = Unit {0}
  IsPure (t.Make' o _ args) = IsLocal o × ArePure args
  IsPure (t.Call' f _ args) = ArePure args
  IsPure (t.Let' _ args _ body) = ArePure args × ArePure body
  IsPure (t.If' _ x _ a _ b) = ArePure x × ArePure a × ArePure b
  IsPure (t.Case' _ x _ bs) = ArePure x × BranchesArePure bs
  IsPure (t.Each' _ rows _ body) = ArePure rows × ArePure body

  pub ArePure : {m : _} → Row_of-Term m → Type 0
  ArePure end_of-Term = Unit {0}
  ArePure (more_of-Term x rest) = IsPure x × ArePure rest

  pub BranchesArePure : {m : _} → Row_of-Branch m → Type 0
  BranchesArePure end_of-Branch = Unit {0}
  BranchesArePure (more_of-Branch pattern body rest) = IsPure body × BranchesArePure rest

-- none of the functions has one
abbrev pub AllPure : List Function → Type 0
AllPure fs = (f : ℕ) (function : Function) → slice_get fs f ≡ Some function → IsPure function.body

-- the table of operations plays, whatever queries and changes do
abbrev pub TablesPlay : Type 0
TablesPlay = (sql : Sql) → Plays (does sql)

-- a call of pure code comes to the same whatever operations on tables do
abbrev pub PureAlike : Type 0
PureAlike = (d e : Does) → Plays d → Plays e → (fs : List Function) → AllPure fs → (f : ℕ) (xs : List Value) (s : State)
    → outcome_of d fs f xs s ≡ outcome_of e fs f xs s

-- a run of pure code that does not get stuck never stops at an operation on tables
abbrev pub PureNeverStops : Type 0
PureNeverStops = (fs : List Function) → AllPure fs → (f : ℕ) (args carried : List Value) (units : ℕ) (m : Frames) (o : Bor Op) (xs : List Value)
    → (outcome_of until fs f args (held carried [] no_store [] units) ≡ Stuck → ⊥) → (IsLocal o.now → ⊥)
    → ComesTo fs f args carried units m (pause.Store o xs) → ⊥

-- A run up to the next operation on tables that does not get stuck over some tables does not over none.
abbrev pub SafeAnywhere : Type 0
SafeAnywhere = (fs : List Function) (f : ℕ) (xs carried : List Value) (store : Store) (units : ℕ)
    → outcome_of until fs f xs (held carried [] store [] units) ≢ Stuck → outcome_of until fs f xs (held carried [] no_store [] units) ≢ Stuck
