-- The routes that were looked at.
use Rattle.std.proofs.Common.{◌≡◌, ℕ, zero, suc, ◌+◌, ◌<◌, Bool, true, false, ◌⊎◌, inl, inr, List, [], ◌∷◌, length, Option, Some, None, All, refl, sym, ap, ◌∙◌, subst, slice_get, count_by, not, cond, arith, zero-lt-suc, suc-le-suc}
use Rattle.std.proofs.lemmas.Bool.{false≢true, true≢false}
use Rattle.std.proofs.lemmas.List.Sums.{sum_by-cons}
use Rattle.std.proofs.lemmas.Option.{slice_get_within, none-some, same_Some}
use Rattle.ur_tags.specs.declared.routes.Route.{Route}
use Rattle.ur_code.specs.declared.code.Code.{Code}
use Rattle.ur_effects.specs.Writes.{IsGetTarget}
use Rattle.ur_effects.specs.Search.{Search, Found, reached, reached_of, IsSearch, HasTargets}
use Rattle.ur_effects.proofs.Searching.{Steps, step, split_last}

-- the functions of the first routes are found
abbrev pub HasTargetsBelow : Code → Search → ℕ → Type 0
HasTargetsBelow code s n = (f : ℕ) (t : IsGetTarget code f) → t.number < n → f < length s.seen → slice_get s.seen f ≡ Some true

-- ---- at the start

all_false : (seen : List Bool) → All (λ b. b ≡ false) seen → (f : ℕ) → slice_get seen f ≡ Some true → ⊥
all_false [] h f e = none-some true e
all_false (b ∷ seen) h zero e = true≢false (sym (same_Some _ _ e) ∙ h 0 b (zero-lt-suc (length seen)))
all_false (b ∷ seen) h (suc f) e = all_false seen (λ k d lt. h (suc k) d (suc-le-suc lt)) f e

count_all : (seen : List Bool) → All (λ b. b ≡ false) seen → count_by not seen ≡ length seen
count_all [] h = refl
count_all (true ∷ seen) h = absurd (true≢false (h 0 true (zero-lt-suc (length seen))))
count_all (false ∷ seen) h =
    let rest = count_all seen (λ k d lt. h (suc k) d (suc-le-suc lt)) in
    let first = sum_by-cons (λ x. cond (not x) 1 0) false seen in
    let longer : 1 + count_by not seen ≡ suc (length seen) = omega (arith, rest) in
    first ∙ longer

pub nothing_is : (code : Code) (s : Search) → length s.seen ≡ length code.functions → All (λ b. b ≡ false) s.seen → s.found ≡ [] → IsSearch code s
nothing_is code s size unseen none = record {
  size = size;
  fits = let a = ap length none in let b = count_all s.seen unseen in omega (arith, a, b);
  led = λ k e h. absurd (none-some e (subst (λ (xs : List Found). slice_get xs k ≡ Some e) none h));
  known = λ f e. absurd (all_false s.seen unseen f e);
}

-- ---- one route more

-- what a route's step keeps
pub record RouteStep (code : Code) (s t : Search) (n : ℕ) : Type 0 where
  pub search : IsSearch code t
  pub targets : HasTargetsBelow code t (n + 1)

-- no function is added
stays : (code : Code) (s : Search) (n : ℕ) (route : Route) (target : Option ℕ) → slice_get code.handlers.routes n ≡ Some route → slice_get code.targets n ≡ target
    → IsSearch code s → HasTargetsBelow code s n → ((f : ℕ) → route.get ≡ true → target ≡ Some f → ⊥) → RouteStep code s s n
stays code s n route target is_route is_target is below not_so = record { search = is; targets = λ f t lt f_in. go f t f_in (split_last t.number n lt) }
  where
    go : (f : ℕ) (t : IsGetTarget code f) → f < length s.seen → (t.number < n) ⊎ (t.number ≡ n) → slice_get s.seen f ≡ Some true
    go f t f_in (inl less) = below f t less f_in
    go f t f_in (inr now) =
        let same : t.route ≡ route = same_Some _ _ (sym t.is_route ∙ ap (slice_get code.handlers.routes) now ∙ is_route) in
        absurd (not_so f (ap (λ (r : Route). r.get) (sym same) ∙ t.has_get) (sym is_target ∙ ap (slice_get code.targets) (sym now) ∙ t.is_target))

pub route_step : (code : Code) (s : Search) (n : ℕ) (route : Route) (target : Option ℕ) → slice_get code.handlers.routes n ≡ Some route → slice_get code.targets n ≡ target
    → IsSearch code s → HasTargetsBelow code s n → RouteStep code s (reached_of s route.get target) n
route_step code s n route None is_route is_target is below = stays code s n route None is_route is_target is below (λ f g e. none-some f e)
route_step code s n route (Some f) is_route is_target is below = go route.get refl
  where
    go : (get : Bool) → route.get ≡ get → RouteStep code s (reached_of s get (Some f)) n
    go false e = stays code s n route (Some f) is_route is_target is below (λ g yes h. false≢true (sym e ∙ yes))
    go true e =
        let target : IsGetTarget code f = record { number = n; route = route; is_route = is_route; has_get = e; is_target = is_target } in
        let one = step code s f None is target in
        record { search = one.search; targets = λ g t lt g_in. new one g t g_in (split_last t.number n lt) }
      where
        new : Steps code s (reached s f None) f → (g : ℕ) (t : IsGetTarget code g) → g < length (reached s f None).seen → (t.number < n) ⊎ (t.number ≡ n)
            → slice_get (reached s f None).seen g ≡ Some true
        new one g t g_in (inl less) = one.grows.seen g (below g t less (subst (λ m. g < m) one.grows.size g_in))
        new one g t g_in (inr now) =
            let same : f ≡ g = same_Some _ _ (sym is_target ∙ ap (slice_get code.targets) (sym now) ∙ t.is_target) in
            subst (λ m. slice_get (reached s f None).seen m ≡ Some true) same
            (one.there (subst (λ m. m < length s.seen) (sym same) (subst (λ m. g < m) one.grows.size g_in)))

-- all routes were looked at
pub all_targets : (code : Code) (s : Search) (n : ℕ) → length code.handlers.routes ≡ n → HasTargetsBelow code s n → HasTargets code s
all_targets code s n all below f t f_in = below f t (subst (λ m. t.number < m) all (slice_get_within code.handlers.routes t.number t.route t.is_route)) f_in
