-- Keys one behind the other, and where each stands last.
use Rattle.std.specs.Prelude.{◌≡◌, ℕ, zero, suc, Bool, true, false, List, [], ◌∷◌, ◌++◌, Option, map, unwrap_or}
use Rattle.std.specs.declared.cmp.Ordering.{Ordering}
use Rattle.std.specs.Ordering.{eq_by_cmp}
use Rattle.std.specs.BTreeMap.{BTreeMap, get}
use Rattle.ur_names.specs.declared.event.Sort.{Sort}
use Rattle.ur_names.specs.declared.keys.Key.{Key}
use Rattle.ur_names.specs.declared.keys.Entry.{Entry}
use Rattle.ur_names.specs.declared.spots.Spot.{Spot}
use Rattle.ur_names.specs.contracts.spots.SpotOrd.TheImpl as order
use Rattle.ur_names.specs.Sorts.{sort_number}

-- `cmp` on spots
abbrev pub spot_cmp : Spot → Spot → Ordering
spot_cmp = order.cmp-value.it

-- where a name of a sort stands, with its module where it is declared
abbrev pub spot : Sort → Option (List ℕ) → List ℕ → Spot
spot t m x = record { sort = sort_number t; home = m; name = x }

abbrev pub spot_of : Key → Spot
spot_of k = spot k.sort k.home k.name

abbrev pub same_spot : Spot → Key → Bool
same_spot s k = eq_by_cmp spot_cmp s (spot_of k)

abbrev pub keys_of : List Entry → List Key
keys_of = map (λ e. e.key)

abbrev pub further : Bool → ℕ → ℕ
further true zero = 1
further false zero = 0
further b (suc n) = suc (suc n)

-- how many items stand up to the last that passes a test, which is 0 where none does
abbrev pub reach : {A : Type 0} → (A → Bool) → List A → ℕ
reach p [] = 0
reach p (x ∷ xs) = further (p x) (reach p xs)

-- each entry has the reach of its key among the keys before it
abbrev pub AreBacked : List Key → List Entry → Type 0
AreBacked ks [] = Unit {0}
AreBacked ks (e ∷ es) = (e.before ≡ reach (same_spot (spot_of e.key)) ks) × AreBacked (ks ++ e.key ∷ []) es

-- so has each entry, and the map has the reach of each key
pub record IsIndexed (es : List Entry) (ends : BTreeMap Spot ℕ) : Type 0 where
  pub backed : AreBacked [] es
  pub ends_there : (s : Spot) → unwrap_or (get spot_cmp ends s) 0 ≡ reach (same_spot s) (keys_of es)
