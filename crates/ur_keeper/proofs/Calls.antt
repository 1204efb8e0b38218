-- What the calls of a keeper in memory keep.
use Rattle.std.proofs.Common.{◌≡◌, ℕ, ◌<◌, Bool, true, length, Option, sym, subst}
use Rattle.ur_values.specs.declared.schema.Schema.{Schema}
use Rattle.ur_values.specs.Store.{Row}
use Rattle.ur_values.specs.Numbered.{HaveRisingNumbers}
use Rattle.ur_keeper.specs.Tables.{Tables, AreRowsOf, table_at, inserted, replaced, removed, drawn}
use Rattle.ur_keeper.specs.Keeper.{HasTable, HasSequence, OfShape, IsRowOf}
use Rattle.ur_keeper.specs.Versions.{Both}
use Rattle.ur_keeper.specs.Memory.{kept_of, AreKept, IsKeeping}
use Rattle.ur_keeper.proofs.Keeping.{table-within, sequence-within, rows-at, rises-at, inserted-kept, replaced-kept, removed-kept, drawn-kept}

abbrev both_of : Tables → Tables → Both
both_of saved current = record { saved = saved; current = current }

module _ (kept old : Option Schema) (same : kept ≡ old) where
  pub table-there : (t : Tables) (n : ℕ) → AreKept kept t → HasTable (kept_of old) n → n < length t.tables
  table-there t n h i = table-within kept t n h (subst (λ k. HasTable (kept_of k) n) (sym same) i)

  pub sequence-there : (t : Tables) (n : ℕ) → AreKept kept t → HasSequence (kept_of old) n → n < length t.sequences
  sequence-there t n h i = sequence-within kept t n h (subst (λ k. HasSequence (kept_of k) n) (sym same) i)

  pub rises-there : (t : Tables) (n : ℕ) → AreKept kept t → HasTable (kept_of old) n → HaveRisingNumbers (table_at t n)
  rises-there t n h i = rises-at kept t n h (subst (λ k. HasTable (kept_of k) n) (sym same) i)

  pub rows-there : (t : Tables) (n : ℕ) → AreKept kept t → OfShape (kept_of old) n (λ shape. AreRowsOf shape (table_at t n))
  rows-there t n h = subst (λ k. OfShape (kept_of k) n (λ shape. AreRowsOf shape (table_at t n))) same (rows-at kept t n h)

  module _ (under_way : Bool) (held new : Both) (k : IsKeeping kept under_way held) (u : under_way ≡ true) where
    keeps : (current : Tables) → new ≡ both_of held.saved current → AreKept kept current → IsKeeping kept under_way new
    keeps current e a =
        subst (λ h. IsKeeping kept under_way h) (sym e) record {
          saved = k.saved;
          current = a;
          commits = k.commits;
          at_rest = λ r. cc;
        }

    pub keeps-inserted : (n : ℕ) (row : Row) → new ≡ both_of held.saved (inserted n row held.current) → HasTable (kept_of old) n → IsRowOf (kept_of old) n row
        → IsKeeping kept under_way new
    keeps-inserted n row e i r =
        keeps (inserted n row held.current) e (inserted-kept kept held.current n row k.current (subst (λ k. HasTable (kept_of k) n) (sym same) i) (subst (λ k. IsRowOf (kept_of k) n row) (sym same) r))

    pub keeps-replaced : (n number : ℕ) (row : Row) → new ≡ both_of held.saved (replaced n number row held.current) → HasTable (kept_of old) n
        → IsRowOf (kept_of old) n row → IsKeeping kept under_way new
    keeps-replaced n number row e i r =
        keeps (replaced n number row held.current) e (replaced-kept kept held.current n number row k.current (subst (λ k. HasTable (kept_of k) n) (sym same) i) (subst (λ k. IsRowOf (kept_of k) n row) (sym same) r))

    pub keeps-removed : (n number : ℕ) → new ≡ both_of held.saved (removed n number held.current) → HasTable (kept_of old) n → IsKeeping kept under_way new
    keeps-removed n number e i =
        keeps (removed n number held.current) e (removed-kept kept held.current n number k.current (subst (λ k. HasTable (kept_of k) n) (sym same) i))

    pub keeps-drawn : (n : ℕ) → new ≡ both_of held.saved (drawn n held.current) → HasSequence (kept_of old) n → IsKeeping kept under_way new
    keeps-drawn n e i =
        keeps (drawn n held.current) e (drawn-kept kept held.current n k.current (subst (λ k. HasSequence (kept_of k) n) (sym same) i))
