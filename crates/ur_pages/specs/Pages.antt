-- The pages that are remembered, and the steps on the list of them.
use Rattle.std.specs.Prelude.{◌≡◌, ℕ, Bool, not, List, [], ◌∷◌, map, filter, remove, bytes_eq, is_some, slice_get, Some}
use Rattle.std.specs.List.{list_all, list_any}
use Rattle.ur_values.specs.declared.value.Value.{Value}
use Rattle.ur_values.specs.Atom.{atom_values}
use Rattle.ur_cacheindex.specs.Matching.{KeyMask}
use Rattle.ur_cache.specs.Entries.{Entry, Cached, entry_at, is_masked, looked_up}
use Rattle.ur_pages.specs.declared.page.Ask.{Ask}
use Rattle.ur_pages.specs.declared.page.Page.{Page}

-- a query: its site and its key
pub record Asked : Type 0 where
  pub site : ℕ
  pub key : List Value

-- a path, the queries that its page asked in order, and the bytes of the page
pub record Remembered : Type 0 where
  pub path : List ℕ
  pub asks : List Asked
  pub page : List ℕ

-- at most so many pages, the most recent first
pub record Pages : Type 0 where
  pub most : ℕ
  pub list : List Remembered

-- ---- queries

-- each query has an entry
abbrev pub are_there : List Entry → List Asked → Bool
are_there entries = list_all (λ a. is_some (entry_at a.site a.key entries))

-- the entries of these queries go to the front, one after the other
abbrev pub brought : List Asked → Cached → Cached
brought [] c = c
brought (a ∷ asks) c = brought asks (looked_up c a.site a.key)

-- a mask matches one of these queries
abbrev pub some_masked : List KeyMask → List Asked → Bool
some_masked masks = list_any (λ a. is_masked masks a.site a.key)

-- ---- pages

abbrev pub is_at : List ℕ → Remembered → Bool
is_at path r = bytes_eq r.path path

-- the pages none of whose queries a mask matches
abbrev pub unmasked : List KeyMask → List Remembered → List Remembered
unmasked masks = filter (λ r. not (some_masked masks r.asks))

abbrev pub without_masked : List KeyMask → Pages → Pages
without_masked masks c = record c { list = unmasked masks c.list }

-- ---- how they are stored

abbrev pub read_ask : Ask → Asked
read_ask a = record { site = a.site; key = atom_values a.key }

abbrev pub read_page : Page → Remembered
read_page p = record { path = p.path; asks = map read_ask p.asks; page = p.bytes }

-- the element at the place is at the front now
abbrev pub IsToFront : {X : Type 0} → List X → ℕ → List X → Type 0
IsToFront {X} xs place ys = (x : X) → slice_get xs place ≡ Some x → ys ≡ x ∷ remove xs place
