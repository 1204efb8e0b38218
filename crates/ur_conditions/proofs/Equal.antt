-- Of equal patterns the first stands for all: it fires where any of them does.
use Rattle.std.proofs.Common.{◌≡◌, ℕ, Bool, true, false, not, ◌&&◌, inl, inr, List, [], ◌∷◌, map, refl, sym, ap, subst, get_or, ◌==◌, eqb-true, true≢false}
use Rattle.std.specs.Cmp.Lexicographic.{pointwise}
use Rattle.std.specs.List.{list_all, AllByRecursion}
use Rattle.std.proofs.lemmas.Bool.{and_from, and_parts}
use Rattle.ur_values.specs.declared.value.Value.{Value}
use Rattle.ur_values.specs.declared.value.Value.TheVariants as v
use Rattle.ur_values.specs.Order.{value_eq}
use Rattle.ur_sql.specs.declared.pattern.Pattern.{Pattern}
use Rattle.ur_sql.specs.declared.pattern.KeyAt.{KeyAt}
use Rattle.ur_sql.specs.declared.pattern.KeyAt.TheVariants as key
use Rattle.ur_sql.specs.declared.pattern.Guard.{Guard}
use Rattle.ur_sql.specs.declared.pattern.Guard.TheVariants as guard
use Rattle.ur_sql.specs.Answer.{first_ones}
use Rattle.ur_cacheindex.specs.Matching.{position_matches, key_matches}
use Rattle.ur_conditions.specs.Patterns.{key_eq, guard_eq, pattern_eq}
use Rattle.ur_conditions.specs.Masks.{guard_holds, fixed_at}
use Rattle.ur_sql.proofs.Members.{In, in_from_filter}
use Rattle.ur_conditions.proofs.Values.{IsPlain, value_eq-same, same_plain, same_plain_right}
use Rattle.ur_conditions.proofs.Fires.{Fires}

-- what goes back along the test holds of a first one
pub first_has : {X : Type 0} (same : X → X → Bool) (P : X → Type 0) → ((x y : X) → same x y ≡ true → P y → P x)
    → (xs : List X) (x : X) → In x xs → P x → (y : X) × In y (first_ones same xs) × P y
first_has same P back [] x i h = absurd i
first_has same P back (z ∷ xs) x (inl e) h = (z, inl refl, subst P (sym e) h)
first_has {X} same P back (z ∷ xs) x (inr i) h = go (first_has same P back xs x i h)
  where
    go : (y : X) × In y (first_ones same xs) × P y → (y : X) × In y (first_ones same (z ∷ xs)) × P y
    go r = choose (same z (r.0)) refl
      where
        choose : (b : Bool) → same z (r.0) ≡ b → (y : X) × In y (first_ones same (z ∷ xs)) × P y
        choose true e = (z, inl refl, back z (r.0) e (r.2))
        choose false e = (r.0, inr (in_from_filter (λ other. not (same z other)) (first_ones same xs) (r.0) (r.1) (ap not e)), r.2)

module _ (args : List Value) (plain : (n : ℕ) → IsPlain (get_or args n v.Absent)) where
  guard_back : (g h : Guard) → guard_eq g h ≡ true → guard_holds args h ≡ true → guard_holds args g ≡ true
  guard_back (guard.Args m n) (guard.Args k l) e i =
      let p = and_parts (m == k) (n == l) e in
      subst (λ x. value_eq (get_or args x v.Absent) (get_or args n v.Absent) ≡ true) (sym (eqb-true m k (p.0)))
      (subst (λ x. value_eq (get_or args k v.Absent) (get_or args x v.Absent) ≡ true) (sym (eqb-true n l (p.1))) i)
  guard_back (guard.Is m c) (guard.Is n d) e i =
      let p = and_parts (m == n) (value_eq c d) e in
      let is_d : get_or args n v.Absent ≡ d = same_plain (get_or args n v.Absent) d (plain n) i in
      let is_c : c ≡ get_or args n v.Absent = same_plain_right c (get_or args n v.Absent) (plain n) (subst (λ x. value_eq c x ≡ true) (sym is_d) (p.1)) in
      subst (λ x. value_eq (get_or args x v.Absent) c ≡ true) (sym (eqb-true m n (p.0))) (value_eq-same (get_or args n v.Absent) c (sym is_c))
  guard_back (guard.Args m n) (guard.Is k d) e i = absurd (true≢false (sym e))
  guard_back (guard.Is m c) (guard.Args k l) e i = absurd (true≢false (sym e))

  guards_back : (gs hs : List Guard) → pointwise guard_eq gs hs ≡ true → list_all (guard_holds args) hs ≡ true → list_all (guard_holds args) gs ≡ true
  guards_back [] [] e i = refl
  guards_back [] (h ∷ hs) e i = absurd (true≢false (sym e))
  guards_back (g ∷ gs) [] e i = absurd (true≢false (sym e))
  guards_back (g ∷ gs) (h ∷ hs) e i =
      let p = and_parts (guard_eq g h) (pointwise guard_eq gs hs) e in
      let r = and_parts (guard_holds args h) (list_all (guard_holds args) hs) i in
      and_from (guard_holds args g) (list_all (guard_holds args) gs) (guard_back g h (p.0) (r.0)) (guards_back gs hs (p.1) (r.1))

  key_back : (a b : KeyAt) (x : Value) → IsPlain x → key_eq a b ≡ true → position_matches (fixed_at args b) x ≡ true → position_matches (fixed_at args a) x ≡ true
  key_back (key.Arg m) (key.Arg n) x px e i = subst (λ k. value_eq (get_or args k v.Absent) x ≡ true) (sym (eqb-true m n e)) i
  key_back (key.Is c) (key.Is d) x px e i = subst (λ z. value_eq c z ≡ true) (same_plain_right d x px i) e
  key_back key.Any key.Any x px e i = refl
  key_back (key.Arg m) (key.Is d) x px e i = absurd (true≢false (sym e))
  key_back (key.Arg m) key.Any x px e i = absurd (true≢false (sym e))
  key_back (key.Is c) (key.Arg n) x px e i = absurd (true≢false (sym e))
  key_back (key.Is c) key.Any x px e i = absurd (true≢false (sym e))
  key_back key.Any (key.Arg n) x px e i = absurd (true≢false (sym e))
  key_back key.Any (key.Is d) x px e i = absurd (true≢false (sym e))

  keys_back : (as' bs : List KeyAt) (xs : List Value) → AllByRecursion IsPlain xs → pointwise key_eq as' bs ≡ true
      → key_matches (map (fixed_at args) bs) xs ≡ true → key_matches (map (fixed_at args) as') xs ≡ true
  keys_back [] [] xs p e i = i
  keys_back [] (b ∷ bs) xs p e i = absurd (true≢false (sym e))
  keys_back (a ∷ as') [] xs p e i = absurd (true≢false (sym e))
  keys_back (a ∷ as') (b ∷ bs) [] p e i = absurd (true≢false (sym i))
  keys_back (a ∷ as') (b ∷ bs) (x ∷ xs) p e i =
      let q = and_parts (key_eq a b) (pointwise key_eq as' bs) e in
      let r = and_parts (position_matches (fixed_at args b) x) (key_matches (map (fixed_at args) bs) xs) i in
      and_from (position_matches (fixed_at args a) x) (key_matches (map (fixed_at args) as') xs) (key_back a b x (p.0) (q.0) (r.0)) (keys_back as' bs xs (p.1) (q.1) (r.1))

  pub fires_back : (site : ℕ) (keys : List Value) → AllByRecursion IsPlain keys → (a b : Pattern) → pattern_eq a b ≡ true → Fires args site keys b → Fires args site keys a
  fires_back site keys plain_keys a b e fires =
      let all = and_parts ((a.site == b.site) && pointwise key_eq a.keys b.keys) (pointwise guard_eq a.guards b.guards) e in
      let two = and_parts (a.site == b.site) (pointwise key_eq a.keys b.keys) (all.0) in
      record {
        guards = guards_back a.guards b.guards (all.1) fires.guards;
        at_site = subst (λ n. (n == site) ≡ true) (sym (eqb-true a.site b.site (two.0))) fires.at_site;
        at_key = keys_back a.keys b.keys keys plain_keys (two.1) fires.at_key;
      }
