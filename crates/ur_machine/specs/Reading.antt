-- The rows of a query's answer, from the cache or from the tables.
use Rattle.std.specs.Prelude.{◌≡◌, ℕ, Bool, List, [], ◌∷◌, Option, Some, Result, IfOk, OnOk, slice_get}
use Rattle.std.specs.List.{AllByRecursion}
use Rattle.ur_base.specs.Told.{WhereTold}
use Rattle.ur_values.specs.declared.value.Value.{Value}
use Rattle.ur_values.specs.Event.{Ask}
use Rattle.ur_values.specs.Store.{FitKinds}
use Rattle.ur_keeper.specs.Tables.{Tables, KeptSchema, store_of}
use Rattle.ur_sql.specs.declared.query.Query.{Query}
use Rattle.ur_sql.specs.Answer.{site_answer}
use Rattle.ur_conditions.specs.declared.patterns.Patterns.{Patterns}
use Rattle.ur_cache.specs.Entries.{Cached}
use Rattle.ur_code.specs.declared.code.Code.{Code}
use Rattle.ur_code.specs.RowType.{query_type}
use Rattle.ur_code.specs.Sound.{IsOf}
use Rattle.ur_machine.specs.declared.stop.TurnStop.{TurnStop}
use Rattle.ur_machine.specs.Answers.{Follows, sites_of}
use Rattle.ur_machine.specs.Stops.{EndsCall}

-- the code has this site, and the key is of its kinds
pub record IsKeyOf (code : Code) (site : ℕ) (key : List Value) : Type 0 where
  pub query : Query
  pub is_site : slice_get code.queries site ≡ Some query
  pub fits : FitKinds key query.params

-- Where the tables are told the rows are the answer over them. In every form they are of the site's row type, and the list
-- of entries and the count of scans went through the step of this query and these rows.
pub record FindsRows (code : Code) (patterns : Patterns) (site : ℕ) (key : List Value) (saved saved' current current' : Option Tables) (kept kept' : KeptSchema) (under_way' : Bool)
    (c c' : Cached) (reads reads' : ℕ) (result : Result (List Value) TurnStop) : Type 0 where
  pub rows : IfOk result (λ rows. WhereTold current (λ t. rows ≡ site_answer code.queries site key (store_of t)))
  pub typed : IfOk result (λ rows. (q : Query) → slice_get code.queries site ≡ Some q → AllByRecursion (λ row. IsOf code row (query_type q).1) rows)
  pub steps : IfOk result (λ rows. Follows (sites_of code patterns) c c' reads reads' (Ask site key rows ∷ []))
  pub stays : OnOk result (current' ≡ current)
  pub ends : EndsCall result saved saved' current' kept kept' under_way'
