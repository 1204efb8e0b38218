-- What a keeper in memory holds, all of which it tells.
use Rattle.std.specs.Prelude.{◌≡◌, ℕ, Bool, true, false, List, [], Option, Some, None, if◌then◌else◌, refl}
use Rattle.std.specs.Coded.{Coded, code_by, coded×, coded_ℕ, coded_bool, coded_option}
use Rattle.ur_base.specs.Counts.{next_count}
use Rattle.ur_values.specs.declared.schema.Schema.{Schema}
use Rattle.ur_values.specs.contracts.schema.Schema as schemas
use Rattle.ur_values.specs.Extends.{extends}
use Rattle.ur_keeper.specs.declared.keeper.Attached.{Attached}
use Rattle.ur_keeper.specs.declared.keeper.Attached.TheVariants.{Ready, Differs}
use Rattle.ur_keeper.specs.Tables.{Tables, KeptSchema, Empty, Keeps, AreTablesOf, AreSound, MayCommit, empty_tables}
use Rattle.ur_keeper.specs.Growing.{grown_tables}
use Rattle.ur_base.specs.FaultPlans.{PlanState, new_plan, after_ok, after_failed, plan_coded}
use Rattle.ur_keeper.specs.Versions.{Both, tables_coded}

pub record Memory : Type 0 where
  pub kept : Option Schema
  -- the tables as they are now and as they were saved last
  pub current : Tables
  pub saved : Tables
  pub under_way : Bool
  pub reads : ℕ
  pub plan : PlanState

abbrev pub memory_code : Coded Memory
memory_code =
    code_by (Option Schema × (Tables × (Tables × (Bool × (ℕ × PlanState))))) (coded× (coded_option (schemas.the_row).coded) (coded× tables_coded (coded× tables_coded (coded× coded_bool (coded× coded_ℕ plan_coded))))) (λ m. (m.kept, (m.current, (m.saved, (m.under_way, (m.reads, m.plan)))))) (λ p. record { kept = p.0; current = p.1.0; saved = p.1.1.0; under_way = p.1.1.1.0; reads = p.1.1.1.1.0; plan = p.1.1.1.1.1 }) (λ _. refl)

-- ---- what the keeper tells

abbrev pub current_of : Memory → Option Tables
current_of m = Some (if m.under_way then m.current else m.saved)

abbrev pub kept_of : Option Schema → KeptSchema
kept_of None = Empty
kept_of (Some schema) = Keeps schema

-- ---- the calls

abbrev pub no_tables : Tables
no_tables = record { tables = []; sequences = [] }

-- an empty store, which fails at these calls
abbrev pub empty_memory : List ℕ → Memory
empty_memory fail = record { kept = None; current = no_tables; saved = no_tables; under_way = false; reads = 0; plan = new_plan fail }

-- a call was counted that went well
abbrev pub passed : Memory → Memory
passed m = record m { plan = after_ok m.plan }

-- a transaction was started
abbrev pub begun : Memory → Memory
begun m = record m { current = m.saved; under_way = true }

-- a scan was counted
abbrev pub read : Memory → Memory
read m = record m { reads = next_count m.reads }

-- the current tables were changed in this way
abbrev pub changed : (Tables → Tables) → Memory → Memory
changed change m = record m { current = change m.current; plan = after_ok m.plan }

-- the current tables were saved
abbrev pub committed : Memory → Memory
committed m = record m { saved = m.current; under_way = false; plan = after_ok m.plan }

-- the transaction was given up
abbrev pub given_up : Memory → Memory
given_up m = record m { current = m.saved; under_way = false }

-- a call failed
abbrev pub failed : Memory → Memory
failed m = record m { current = m.saved; under_way = false; plan = after_failed m.plan }

-- a call wanted memory
abbrev pub wanting : Memory → Memory
wanting m = record m { current = m.saved; under_way = false; plan = after_ok m.plan }

-- ---- attach

-- an empty store has the schema; one whose schema the given one extends has the given one, and Absent in each new column; every other
-- one is as it was
abbrev pub grown_memory : Schema → Schema → Memory → Memory
grown_memory schema kept m = record m { kept = Some schema; current = grown_tables schema kept m.saved; saved = grown_tables schema kept m.saved; plan = after_ok m.plan }

abbrev pub grown_if : Bool → Schema → Schema → Memory → Memory
grown_if true schema kept m = grown_memory schema kept m
grown_if false schema kept m = passed m

abbrev pub attached : Schema → Memory → Memory
attached schema m = attached_to m.kept schema m
  where
    attached_to : Option Schema → Schema → Memory → Memory
    attached_to None schema m = record m { kept = Some schema; current = empty_tables schema; saved = empty_tables schema; plan = after_ok m.plan }
    attached_to (Some kept) schema m = grown_if (extends schema kept) schema kept m

-- an empty store and one whose schema the given one extends are ready, every other one answers the schema that it has
abbrev pub AnswersTo : Schema → Option Schema → Attached → Type 0
AnswersTo schema None Ready = Unit {0}
AnswersTo schema None (Differs other) = ⊥
AnswersTo schema (Some kept) Ready = extends schema kept ≡ true
AnswersTo schema (Some kept) (Differs other) = (other ≡ kept) × (extends schema kept ≡ false)

-- the given schema extends that of the store, which has a fault
abbrev pub IsFaulty : Schema → Memory → Type 0
IsFaulty schema m = (kept : Schema) × (m.kept ≡ Some kept) × (extends schema kept ≡ true) × (AreSound kept m.saved → ⊥)

-- ---- what holds of a keeper's fields

-- tables of the kept schema; without one there are none
abbrev pub AreKept : Option Schema → Tables → Type 0
AreKept None t = t ≡ no_tables
AreKept (Some schema) t = AreTablesOf schema t

abbrev pub MaySave : Option Schema → Tables → Type 0
MaySave None t = Unit {0}
MaySave (Some schema) t = MayCommit schema t

pub record IsKeeping (kept : Option Schema) (under_way : Bool) (held : Both) : Type 0 where
  pub saved : AreKept kept held.saved
  pub current : AreKept kept held.current
  pub commits : MaySave kept held.saved
  pub at_rest : under_way ≡ false → held.current ≡ held.saved
