-- Changes of rows, one after the other.
use Rattle.std.proofs.Common.{◌≡◌, ℕ, ◌≤◌, ◌<◌, List, [], ◌∷◌, length, All, Option, Some, None, option_map, slice_set, refl, sym, ap, subst, ◌∙◌, set-set, get_or-set_same, rules}
use Rattle.std.proofs.lemmas.List.{set-get_or, map-set}
use Rattle.std.proofs.lemmas.List.Elements.{recursion_from_All, All-from_recursion}
use Rattle.std.specs.List.{AllByRecursion}
use Rattle.ur_base.specs.Told.{WhereTold, Becomes}
use Rattle.ur_values.specs.declared.value.Value.{Value}
use Rattle.ur_values.specs.declared.schema.Numbered.{Numbered}
use Rattle.ur_values.specs.Numbered.{next_number}
use Rattle.ur_values.specs.Store.{rows_of}
use Rattle.ur_keeper.specs.Tables.{Tables, table_at, with_table, store_of}
use Rattle.ur_sql.specs.declared.change.Action.{Action}
use Rattle.ur_sql.specs.declared.change.Action.TheVariants as action
use Rattle.ur_sql.specs.declared.change.RowChange.{RowChange}
use Rattle.ur_sql.specs.declared.change.RowChange.TheVariants as row
use Rattle.ur_sql.specs.Change.{chosen, updated_row}
use Rattle.ur_sql.specs.Plan.{row_changed, rows_changed, row_changes, HasRow, CanChange}
use Rattle.ur_sql.proofs.Outcome.{all_changes}
use Rattle.ur_machine.specs.Changing.{changed_in, all_changed, MayChange, MayChangeAll}

-- ---- what is left to do

pub record Left (table : ℕ) (cs : List RowChange) (end now : Option Tables) : Type 0 where
  pub same : option_map (all_changed table cs) now ≡ end
  pub may : WhereTold now (MayChangeAll table cs)

pub left_begins : (table : ℕ) (cs : List RowChange) (now : Option Tables) → WhereTold now (MayChangeAll table cs) → Left table cs (option_map (all_changed table cs) now) now
left_begins table cs now may = record { same = refl; may = may }

pub left_one : (table : ℕ) (c : RowChange) (cs : List RowChange) (end now : Option Tables) → Left table (c ∷ cs) end now → WhereTold now (λ t. MayChange (table_at t table) c)
left_one table c cs end None h = tt
left_one table c cs end (Some t) h = h.may.0

pub left_more : (table : ℕ) (c : RowChange) (cs : List RowChange) (end now next : Option Tables) → Left table (c ∷ cs) end now → Becomes (changed_in table c) now next → Left table cs end next
left_more table c cs end None next h e = record {
  same = ap (option_map (all_changed table cs)) e ∙ h.same;
  may = subst (λ o. WhereTold o (MayChangeAll table cs)) (sym e) tt;
}
left_more table c cs end (Some t) next h e = record {
  same = ap (option_map (all_changed table cs)) e ∙ h.same;
  may = subst (λ o. WhereTold o (MayChangeAll table cs)) (sym e) h.may.1;
}

pub left_none : (table : ℕ) (end now : Option Tables) → Left table [] end now → now ≡ end
left_none table end None h = h.same
left_none table end (Some t) h = h.same

-- ---- all changes at once

-- one change and then the others
pub changes_at_once : (table : ℕ) (cs : List RowChange) (t : Tables) → table < length t.tables → all_changed table cs t ≡ with_table table (λ rows. rows_changed rows cs) t
changes_at_once table [] t there = sym (ap (λ xs. record t { tables = xs }) (set-get_or t.tables table []))
changes_at_once table (c ∷ cs) t there =
    let new = row_changed (table_at t table) c in
    changes_at_once table cs (changed_in table c t) (still_there table c t there)
    ∙ ap (λ xs. record t { tables = xs })
    (ap (λ rows. slice_set (slice_set t.tables table new) table (rows_changed rows cs)) (get_or-set_same t.tables table new [] there)
    ∙ set-set t.tables table new (rows_changed new cs))
  where
    still_there : (table : ℕ) (c : RowChange) (t : Tables) → table < length t.tables → table < length (changed_in table c t).tables
    still_there table c t there = search rules

-- the store after it
pub store_changed : (table : ℕ) (cs : List RowChange) (t : Tables) → table < length t.tables
    → store_of (all_changed table cs t) ≡ record (store_of t) { tables = slice_set (store_of t).tables table (rows_of (rows_changed (table_at t table) cs)) }
store_changed table cs t there =
    ap store_of (changes_at_once table cs t there) ∙ ap (λ xs. record (store_of t) { tables = xs }) (map-set rows_of t.tables table (rows_changed (table_at t table) cs))

-- ---- what is planned may be made

abbrev NeedsNoNumber : RowChange → Type 0
NeedsNoNumber c = (rows : List Numbered) → HasRow rows c → MayChange rows c

may_without : (table : ℕ) (cs : List RowChange) → AllByRecursion NeedsNoNumber cs → (t : Tables) → table < length t.tables → CanChange (table_at t table) cs → MayChangeAll table cs t
may_without table [] each t there can = tt
may_without table (c ∷ cs) each t there can = (
  each.0 (table_at t table) can.0,
  may_without table cs each.1 (changed_in table c t) (still_there table c t there)
      (subst (λ rows. CanChange rows cs) (sym (get_or-set_same t.tables table (row_changed (table_at t table) c) [] there)) can.1),
)
  where
    still_there : (table : ℕ) (c : RowChange) (t : Tables) → table < length t.tables → table < length (changed_in table c t).tables
    still_there table c t there = search rules

any_row : (rows : List Numbered) → All (λ r. Unit {0}) rows
any_row rows = All-from_recursion (λ r. Unit {0}) rows (go rows)
  where
    go : (rows : List Numbered) → AllByRecursion (λ r. Unit {0}) rows
    go [] = tt
    go (r ∷ rows) = (tt, go rows)

-- where a number is left, and each change finds its row
pub planned_may : (what : Action) (args : List Value) (table : ℕ) (t : Tables) → table < length t.tables → next_number (table_at t table) ≤ 9223372036854775807
    → CanChange (table_at t table) (row_changes what args (table_at t table)) → MayChangeAll table (row_changes what args (table_at t table)) t
planned_may (action.Insert sets) args table t there room can = (room, tt)
planned_may (action.Update sets condition) args table t there room can =
    may_without table _ (recursion_from_All NeedsNoNumber _ (all_changes (λ r. chosen args condition r.row) (λ r. row.Put r.number (updated_row args sets r.row)) NeedsNoNumber (λ r. Unit {0}) (λ r u rows h. h) (table_at t table) (any_row (table_at t table)))) t there can
planned_may (action.Delete condition) args table t there room can =
    may_without table _ (recursion_from_All NeedsNoNumber _ (all_changes (λ r. chosen args condition r.row) (λ r. row.Drop r.number) NeedsNoNumber (λ r. Unit {0}) (λ r u rows h. h) (table_at t table) (any_row (table_at t table)))) t there can

-- the first of those that are left is made
pub left_step : (table : ℕ) (c : RowChange) (cs left : List RowChange) (end now next : Option Tables) → left ≡ c ∷ cs → Left table left end now → Becomes (changed_in table c) now next → Left table cs end next
left_step table c cs left end now next e h b = left_more table c cs end now next (subst (λ l. Left table l end now) e h) b
