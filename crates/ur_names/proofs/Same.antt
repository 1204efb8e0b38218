-- Keys that are the same, and names that are looked up.
use Rattle.std.proofs.Common.{◌≡◌, refl, ap, sym, ◌∙◌, ℕ, ◌&&◌, List, Option, Some, None}
use Rattle.std.specs.Prelude.{bytes_eq}
use Rattle.std.specs.List.{list_any}
use Rattle.std.specs.Option.{option_eq}
use Rattle.ur_syntax.specs.Names.{same_module}
use Rattle.ur_names.specs.declared.event.Sort.{Sort}
use Rattle.ur_names.specs.declared.keys.Key.{Key}
use Rattle.ur_names.specs.declared.spots.Spot.{Spot}
use Rattle.ur_names.specs.contracts.spots.SpotOrd.TheImpl.Laws as laws
use Rattle.ur_names.specs.Sorts.{same_sort}
use Rattle.ur_names.specs.Indexed.{spot, spot_of, same_spot}
use Rattle.ur_names.specs.Faults.{is_local, is_member}
use Rattle.ur_names.proofs.Reaching.{any_alike}

home-same : (m n : Option (List ℕ)) → option_eq bytes_eq m n ≡ same_module m n
home-same None None = refl
home-same None (Some n) = refl
home-same (Some m) None = refl
home-same (Some m) (Some n) = refl

spot-same : (t : Sort) (m : Option (List ℕ)) (x : List ℕ) (k : Key) → same_spot (spot t m x) k ≡ (same_sort t k.sort && (same_module m k.home && bytes_eq x k.name))
spot-same t m x k = sym (laws.matches_eq-law (spot t m x) (spot_of k)) ∙ ap (λ b. same_sort t k.sort && (b && bytes_eq x k.name)) (home-same m k.home)

pub local_among : (t : Sort) (x : List ℕ) (s : Spot) (ks : List Key) → s ≡ spot t None x → list_any (same_spot s) ks ≡ list_any (is_local t x) ks
local_among t x s ks h = ap (λ s. list_any (same_spot s) ks) h ∙ any_alike (same_spot (spot t None x)) (is_local t x) ks (spot-same t None x)

pub member_among : (t : Sort) (m x : List ℕ) (s : Spot) (ks : List Key) → s ≡ spot t (Some m) x → list_any (same_spot s) ks ≡ list_any (is_member t m x) ks
member_among t m x s ks h = ap (λ s. list_any (same_spot s) ks) h ∙ any_alike (same_spot (spot t (Some m) x)) (is_member t m x) ks (spot-same t (Some m) x)
