-- The rows of the table as bodies by rowid, the map that they tell, and what each statement shows of them.
use Rattle.std.specs.Prelude.{◌≡◌, ℕ, ℤ, Bool, List, [], ◌∷◌, map, filter, T, IsPermutation}
use Rattle.std.specs.Ordering.{int_cmp, int_eq, eq_by_cmp}
use Rattle.std.specs.FinMap.{from_entries, is_sorted}
use Rattle.sqlite.specs.declared.types.Value.TheVariants.{Int, Blob}
use Rattle.sqlite.specs.Order.{Row, column, bytes}
use Rattle.sqlite.specs.Edit.{id_in}
use Rattle.ur_keeper_bodies.specs.Bodies.{Place, BodyMap, place_cmp}

abbrev pub Body : Type 0
Body = Place × List ℕ

-- a body with its rowid
abbrev pub Kept : Type 0
Kept = ℤ × Body

-- the row that it is stored as, and back
abbrev pub stored : Kept → Row
stored k = Int k.0 ∷ Int k.1.0.0 ∷ Int k.1.0.1 ∷ Blob k.1.1 ∷ []

abbrev pub kept_in : Row → Kept
kept_in r = (id_in (column r 0), ((id_in (column r 1), id_in (column r 2)), bytes (column r 3)))

abbrev pub bodies_kept : List Kept → List Body
bodies_kept = map (λ k. k.1)

-- the map that rows tell
abbrev pub map_in : List Row → BodyMap
map_in rows = from_entries (bodies_kept (map kept_in rows))

-- rows of this form alone, whose rowids rise
pub record AreKept (rows : List Row) : Type 0 where
  pub kept : List Kept
  pub are : rows ≡ map stored kept
  pub rise : T (is_sorted int_cmp kept)

-- whether a body is of this table, and whether it is at this place
abbrev pub is_of : ℤ → Kept → Bool
is_of tab k = int_eq k.1.0.0 tab

abbrev pub is_at : Place → Kept → Bool
is_at place k = eq_by_cmp place_cmp place k.1.0

-- ---- what the queries show

abbrev pub as_entry : ℤ × List ℕ → Row
as_entry entry = Int entry.0 ∷ Blob entry.1 ∷ []

-- the numbers and bodies of a table, in some order
abbrev pub ShowsTable : List Row → ℤ → List Row → Type 0
ShowsTable rows tab shown = IsPermutation (map (λ k. as_entry (k.1.0.1, k.1.1)) (filter (is_of tab) (map kept_in rows))) shown

-- the bodies at a place
abbrev pub ShowsPlace : List Row → Place → List Row → Type 0
ShowsPlace rows place shown = IsPermutation (map (λ k. Blob k.1.1 ∷ []) (filter (is_at place) (map kept_in rows))) shown
