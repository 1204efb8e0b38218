-- Where what a pair says holds, the pair is consistent, and the guards of its pattern hold and its key matches.
use Rattle.std.proofs.Common.{◌≡◌, ◌≢◌, ℕ, zero, suc, ◌+◌, ◌<◌, Bool, true, false, not, cond, ◌&&◌, ◌⊎◌, inl, inr, ⊎_elim, List, [], ◌∷◌, ◌++◌, map, flat_map, length, refl, sym, ap, ◌∙◌, subst, get_or, Option, Some, None, ◌==◌, eq-eqb, arith, true≢false}
use Rattle.std.specs.List.{list_any, list_all, range_with_len}
use Rattle.std.proofs.lemmas.Bool.{and_from, and_parts, false_from_ne_true, not_from_false}
use Rattle.std.specs.Int.{w64, int_wrapping_add, int_wrapping_sub, int_wrapping_mul}
use Rattle.ur_values.specs.declared.value.Value.{Value}
use Rattle.ur_values.specs.declared.value.Value.TheVariants as v
use Rattle.ur_values.specs.Order.{value_eq}
use Rattle.ur_sql.specs.declared.term.SqlTerm.{SqlTerm, more_of-SqlTerm as more, end_of-SqlTerm as end}
use Rattle.ur_sql.specs.declared.term.SqlTerm.TheVariants as t
use Rattle.ur_sql.specs.declared.pattern.Pattern.{Pattern}
use Rattle.ur_sql.specs.declared.pattern.KeyAt.{KeyAt}
use Rattle.ur_sql.specs.declared.pattern.Guard.{Guard}
use Rattle.ur_sql.specs.declared.pattern.Guard.TheVariants as guard
use Rattle.ur_sql.specs.Scalar.{on_ints, int_neg}
use Rattle.ur_cacheindex.specs.Matching.{position_matches, key_matches}
use Rattle.ur_congruence.proofs.Sound.{value_eq as derived_eq}
use Rattle.ur_congruence.specs.Derives.{some_symbol}
use Rattle.ur_conditions.specs.Terms.{application, subterms, constant_of}
use Rattle.ur_conditions.specs.Disjuncts.{Equation}
use Rattle.ur_conditions.specs.declared.pair.Pair.{Pair}
use Rattle.ur_conditions.specs.Pairs.{side_terms, key_terms, arg_terms, terms_of, IsApplied, SharesClass, TellsClasses}
use Rattle.ur_conditions.specs.Patterns.{Test, constants_of, somes_of, is_some, is_null, is_consistent, args_in_class, constant_in_class, key_by, key_at, constant_guard, guards_by, guards_of, pattern_by}
use Rattle.ur_conditions.specs.Masks.{guard_holds, fixed_at}
use Rattle.ur_conditions.proofs.Valuation.{Valuation, term_value}
use Rattle.ur_sql.proofs.Members.{In, in_from_contains, contains_from_in, in_append_left, in_append_right, in_append_back, in_map, in_map_back, in_flat_map, in_filter, in_filter_map_back, any_in, all_from, found, in_range}
use Rattle.ur_conditions.proofs.Values.{value_eq-same, present_injective, absent_apart}

pub in_flat_map_back : {X Y : Type 0} (f : X → List Y) (xs : List X) (y : Y) → In y (flat_map f xs) → (x : X) × In x xs × In y (f x)
in_flat_map_back f [] y h = absurd h
in_flat_map_back {X} {Y} f (x ∷ xs) y h = go (in_append_back (f x) (flat_map f xs) y h) (in_flat_map_back f xs y)
  where
    go : In y (f x) ⊎ In y (flat_map f xs) → (In y (flat_map f xs) → (z : X) × In z xs × In y (f z)) → (z : X) × ((x ≡ z) ⊎ In z xs) × In y (f z)
    go (inl i) rec = (x, inl refl, i)
    go (inr i) rec = let r = rec i in (r.0, inr (r.1), r.2)

-- ---- terms

-- the value of an operation on values
arithmetic : ℕ → List Value → Value
arithmetic zero (x ∷ y ∷ []) = on_ints (int_wrapping_add w64) x y
arithmetic (suc zero) (x ∷ y ∷ []) = on_ints (int_wrapping_sub w64) x y
arithmetic (suc (suc zero)) (x ∷ y ∷ []) = on_ints (int_wrapping_mul w64) x y
arithmetic (suc (suc (suc zero))) (x ∷ []) = int_neg x
arithmetic _ _ = v.Absent

presented : List Value → Value
presented (x ∷ []) = v.Present x
presented _ = v.Absent

pub operate : ℕ → List Value → Value
operate f xs = cond (f == some_symbol) (presented xs) (arithmetic f xs)

-- SOME of different values is different
pub operate_injective : (x y : Value) → operate some_symbol (x ∷ []) ≡ operate some_symbol (y ∷ []) → x ≡ y
unfolding operate presented
operate_injective x y e = present_injective x y e

operated : Valuation → Option (ℕ × List SqlTerm) → Value → Value
operated w None x = x
operated w (Some p) x = operate (p.0) (map (term_value w) (p.1))

-- a term's value is its operation's on the values of its parts
is_operated : (w : Valuation) (a : SqlTerm) → term_value w a ≡ operated w (application a) (term_value w a)
unfolding term_value operate arithmetic presented operated
is_operated w (t.Add' _ (more a end) _ (more b end)) = refl
is_operated w (t.Sub' _ (more a end) _ (more b end)) = refl
is_operated w (t.Mul' _ (more a end) _ (more b end)) = refl
is_operated w (t.Neg' _ (more a end)) = refl
is_operated w (t.Present' _ (more a end)) = refl
is_operated w _ = refl

pub applied_value : (w : Valuation) (a : SqlTerm) (f : ℕ) (parts : List SqlTerm) → application a ≡ Some (f, parts) → term_value w a ≡ operate f (map (term_value w) parts)
unfolding operated
applied_value w a f parts e = is_operated w a ∙ ap (λ (o : Option (ℕ × List SqlTerm)). operated w o (term_value w a)) e

pub own_subterm : (a : SqlTerm) → In a (subterms a)
unfolding subterms Rattle.ur_sql.specs.declared.term.SqlTerm.TheBlock.hidden-the_row-SqlTerm-0 denote.Hole.Carrier.hidden
own_subterm (t.Add' _ (more a end) _ (more b end)) = inl refl
own_subterm (t.Sub' _ (more a end) _ (more b end)) = inl refl
own_subterm (t.Mul' _ (more a end) _ (more b end)) = inl refl
own_subterm (t.Neg' _ (more a end)) = inl refl
own_subterm (t.Present' _ (more a end)) = inl refl
own_subterm _ = inl refl

constant_is : (a : SqlTerm) (c : Value) → constant_of a ≡ Some c → a ≡ t.Constant c
constant_is (t.Constant x) c e = ap t.Constant (let same : x ≡ c = cc in same)
constant_is _ c e = cc

-- the value of SOME of a term is Present
some_value : (w : Valuation) (a : SqlTerm) → is_some a ≡ true → (x : Value) × (term_value w a ≡ v.Present x)
unfolding term_value
some_value w (t.Present' _ (more a end)) e = (term_value w a, refl)
some_value w _ e = cc

null_is : (c : Value) → is_null c ≡ true → c ≡ v.Absent
null_is v.Absent e = refl
null_is _ e = cc

-- ---- a key that matches position by position

matches_from : (args : List Value) (f : ℕ → KeyAt) (a : ℕ) (xs : List Value) (n : ℕ) → length xs ≡ n
    → ((i : ℕ) → i < n → position_matches (fixed_at args (f (a + i))) (get_or xs i v.Absent) ≡ true)
    → key_matches (map (fixed_at args) (map f (range_with_len a n))) xs ≡ true
matches_from args f a [] zero e at = refl
matches_from args f a [] (suc n) e at = absurd (omega arith)
matches_from args f a (x ∷ xs) zero e at = absurd (omega arith)
matches_from args f a (x ∷ xs) (suc n) e at =
    and_from (position_matches (fixed_at args (f a)) x) (key_matches (map (fixed_at args) (map f (range_with_len (a + 1) n))) xs)
    (subst (λ m. position_matches (fixed_at args (f m)) x ≡ true) (let z : a + 0 ≡ a = omega arith in z) (at zero (omega arith)))
    (matches_from args f (a + 1) xs n (omega arith)
    (λ i small. subst (λ m. position_matches (fixed_at args (f m)) (get_or xs i v.Absent) ≡ true) (let z : a + suc i ≡ a + 1 + i = omega arith in z) (at (suc i) (omega arith))))

-- ---- the terms of a pair

module _ (p : Pair) where
  in_sides : (a : SqlTerm) → In a (side_terms (p.equations ++ p.disequations)) → In a (terms_of p)
  in_sides a i = in_append_left (side_terms (p.equations ++ p.disequations) ++ key_terms p.keys) (arg_terms p.args) a (in_append_left (side_terms (p.equations ++ p.disequations)) (key_terms p.keys) a i)

  -- the sides of a disequation, a key position and an argument are terms of the pair
  pub left_term : (d : Equation) → In d p.disequations → In (d.0) (terms_of p)
  left_term d i = in_sides (d.0) (in_flat_map (λ (e : Equation). subterms (e.0) ++ subterms (e.1)) (p.equations ++ p.disequations) d (d.0)
      (in_append_right p.equations p.disequations d i) (in_append_left (subterms (d.0)) (subterms (d.1)) (d.0) (own_subterm (d.0))))

  pub right_term : (d : Equation) → In d p.disequations → In (d.1) (terms_of p)
  right_term d i = in_sides (d.1) (in_flat_map (λ (e : Equation). subterms (e.0) ++ subterms (e.1)) (p.equations ++ p.disequations) d (d.1)
      (in_append_right p.equations p.disequations d i) (in_append_right (subterms (d.0)) (subterms (d.1)) (d.1) (own_subterm (d.1))))

  pub key_term : (n : ℕ) → n < p.keys → In (t.Key n) (terms_of p)
  key_term n small =
      in_append_left (side_terms (p.equations ++ p.disequations) ++ key_terms p.keys) (arg_terms p.args) (t.Key n)
      (in_append_right (side_terms (p.equations ++ p.disequations)) (key_terms p.keys) (t.Key n)
      (in_map t.Key (range_with_len 0 p.keys) n (in_range 0 p.keys n (omega arith) (omega arith))))

  pub arg_term : (n : ℕ) → In n (range_with_len 0 p.args) → In (t.Arg n) (terms_of p)
  arg_term n i = in_append_right (side_terms (p.equations ++ p.disequations) ++ key_terms p.keys) (arg_terms p.args) (t.Arg n) (in_map t.Arg (range_with_len 0 p.args) n i)

  pub constant_term : (c : Value) → In c (constants_of p) → In (t.Constant c) (terms_of p)
  constant_term c i = let r = in_filter_map_back constant_of (terms_of p) c i in subst (λ a. In a (terms_of p)) (constant_is (r.0) c (r.2)) (r.1)

-- ---- a pair that holds

-- the arguments and the key are those of the valuation, and what the pair says holds
pub record PairHolds (p : Pair) (w : Valuation) (args keys : List Value) : Type 0 where
  pub arg : (n : ℕ) → w.arg n ≡ get_or args n v.Absent
  pub key : (n : ℕ) → w.key n ≡ get_or keys n v.Absent
  pub key_count : length keys ≡ p.keys
  pub equations : (e : Equation) → In e p.equations → term_value w (e.0) ≡ term_value w (e.1)
  pub disequations : (e : Equation) → In e p.disequations → term_value w (e.0) ≢ term_value w (e.1)

-- the guards hold and the mask matches
pub record Fires (args : List Value) (site : ℕ) (keys : List Value) (pattern : Pattern) : Type 0 where
  pub guards : list_all (guard_holds args) pattern.guards ≡ true
  pub at_site : (pattern.site == site) ≡ true
  pub at_key : key_matches (map (fixed_at args) pattern.keys) keys ≡ true

module _ (p : Pair) (w : Valuation) (args keys : List Value) (holds : PairHolds p w args keys) (same : Test) (tells : TellsClasses p same) where
  -- what shares a class has one value
  shares : (a b : SqlTerm) → SharesClass p a b → term_value w a ≡ term_value w b
  shares = derived_eq (IsApplied p) p.equations (term_value w) operate (λ a f parts is. applied_value w a f parts (is.1)) operate_injective
      (λ a b i. holds.equations (a, b) (in_from_contains p.equations (a, b) i))

  told : (a b : SqlTerm) → In a (terms_of p) → In b (terms_of p) → same a b ≡ true → term_value w a ≡ term_value w b
  told a b ia ib e = shares a b ((tells a b (contains_from_in (terms_of p) a ia) (contains_from_in (terms_of p) b ib)).0 e)

  -- no two different constants share a class
  no_constants : list_any (λ c. list_any (λ d. not (value_eq c d) && same (t.Constant c) (t.Constant d)) (constants_of p)) (constants_of p) ≡ true → ⊥
  unfolding term_value
  no_constants h =
      let c = any_in (λ c. list_any (λ d. not (value_eq c d) && same (t.Constant c) (t.Constant d)) (constants_of p)) (constants_of p) h in
      let d = any_in (λ d. not (value_eq (c.0) d) && same (t.Constant (c.0)) (t.Constant d)) (constants_of p) (c.2) in
      let parts = and_parts (not (value_eq (c.0) (d.0))) (same (t.Constant (c.0)) (t.Constant (d.0))) (d.2) in
      let equal : c.0 ≡ d.0 = told (t.Constant (c.0)) (t.Constant (d.0)) (constant_term p (c.0) (c.1)) (constant_term p (d.0) (d.1)) (parts.1) in
      true≢false (sym (parts.0) ∙ ap not (value_eq-same (c.0) (d.0) equal))

  -- no NULL and a SOME do
  no_null_some : list_any (λ c. is_null c && list_any (λ s. same (t.Constant c) s) (somes_of p)) (constants_of p) ≡ true → ⊥
  unfolding term_value
  no_null_some h =
      let c = any_in (λ c. is_null c && list_any (λ s. same (t.Constant c) s) (somes_of p)) (constants_of p) h in
      let parts = and_parts (is_null (c.0)) (list_any (λ s. same (t.Constant (c.0)) s) (somes_of p)) (c.2) in
      let s = any_in (λ s. same (t.Constant (c.0)) s) (somes_of p) (parts.1) in
      let there = in_filter is_some (terms_of p) (s.0) (s.1) in
      let value = some_value w (s.0) (there.1) in
      let null : c.0 ≡ v.Absent = null_is (c.0) (parts.0) in
      absent_apart (value.0) (sym null ∙ told (t.Constant (c.0)) (s.0) (constant_term p (c.0) (c.1)) (there.0) (s.2) ∙ value.1)

  -- no disequation's sides do
  no_disequations : list_any (λ (d : Equation). same (d.0) (d.1)) p.disequations ≡ true → ⊥
  no_disequations h =
      let d = any_in (λ (d : Equation). same (d.0) (d.1)) p.disequations h in
      holds.disequations (d.0) (d.1) (told ((d.0).0) ((d.0).1) (left_term p (d.0) (d.1)) (right_term p (d.0) (d.1)) (d.2))

  pub consistent : is_consistent same p ≡ true
  consistent =
      and_from (not (list_any (λ c. list_any (λ d. not (value_eq c d) && same (t.Constant c) (t.Constant d)) (constants_of p)) (constants_of p)) && not
      (list_any (λ c. is_null c && list_any (λ s. same (t.Constant c) s) (somes_of p)) (constants_of p)))
      (not (list_any (λ (d : Equation). same (d.0) (d.1)) p.disequations))
      (and_from (not (list_any (λ c. list_any (λ d. not (value_eq c d) && same (t.Constant c) (t.Constant d)) (constants_of p)) (constants_of p)))
      (not (list_any (λ c. is_null c && list_any (λ s. same (t.Constant c) s) (somes_of p)) (constants_of p)))
      (not_from_false _ (false_from_ne_true _ no_constants)) (not_from_false _ (false_from_ne_true _ no_null_some)))
      (not_from_false _ (false_from_ne_true _ no_disequations))

  -- ---- the key

  arg_value : (a : SqlTerm) (n : ℕ) → In a (terms_of p) → In n (args_in_class same p a) → term_value w a ≡ get_or args n v.Absent
  unfolding term_value
  arg_value a n ia i = let r = in_filter (λ m. same a (t.Arg m)) (range_with_len 0 p.args) n i in told a (t.Arg n) ia (arg_term p n (r.0)) (r.1) ∙ holds.arg n

  constant_value : (a : SqlTerm) (c : Value) → In a (terms_of p) → constant_in_class same p a ≡ Some c → term_value w a ≡ c
  unfolding term_value
  constant_value a c ia e = let r = found (λ d. same a (t.Constant d)) (constants_of p) c e in told a (t.Constant c) ia (constant_term p c (r.0)) (r.1)

  key_value : (n : ℕ) → term_value w (t.Key n) ≡ get_or keys n v.Absent
  unfolding term_value
  key_value n = holds.key n

  position : (n : ℕ) → n < p.keys → position_matches (fixed_at args (key_at same p n)) (get_or keys n v.Absent) ≡ true
  position n small = go (args_in_class same p (t.Key n)) (constant_in_class same p (t.Key n)) (λ m i. sym (arg_value (t.Key n) m (key_term p n small) i) ∙ key_value n) (λ c e. sym (constant_value (t.Key n) c (key_term p n small) e) ∙ key_value n)
    where
      go : (ns : List ℕ) (o : Option Value) → ((m : ℕ) → In m ns → get_or args m v.Absent ≡ get_or keys n v.Absent) → ((c : Value) → o ≡ Some c → c ≡ get_or keys n v.Absent)
          → position_matches (fixed_at args (key_by ns o)) (get_or keys n v.Absent) ≡ true
      go (m ∷ ms) o by_arg by_constant = value_eq-same (get_or args m v.Absent) (get_or keys n v.Absent) (by_arg m (inl refl))
      go [] (Some c) by_arg by_constant = value_eq-same c (get_or keys n v.Absent) (by_constant c refl)
      go [] None by_arg by_constant = refl

  -- ---- the guards

  arg_itself : (n : ℕ) → term_value w (t.Arg n) ≡ get_or args n v.Absent
  unfolding term_value
  arg_itself n = holds.arg n

  guard_true : (g : Guard) → In g (guards_of same p) → guard_holds args g ≡ true
  guard_true g h =
      let r = in_flat_map_back (λ n. guards_by n (args_in_class same p (t.Arg n)) (constant_in_class same p (t.Arg n))) (range_with_len 0 p.args) g h in
      go (r.0) (args_in_class same p (t.Arg (r.0))) (constant_in_class same p (t.Arg (r.0)))
      (λ m i. sym (arg_itself (r.0)) ∙ arg_value (t.Arg (r.0)) m (arg_term p (r.0) (r.1)) i) (λ c e. sym (arg_itself (r.0)) ∙ constant_value (t.Arg (r.0)) c (arg_term p (r.0) (r.1)) e) (r.2)
    where
      by_constant : (n : ℕ) (o : Option Value) → ((c : Value) → o ≡ Some c → get_or args n v.Absent ≡ c) → In g (constant_guard n o) → guard_holds args g ≡ true
      by_constant n None is i = absurd i
      by_constant n (Some c) is (inl e) = subst (λ z. guard_holds args z ≡ true) e (value_eq-same (get_or args n v.Absent) c (is c refl))
      by_constant n (Some c) is (inr i) = absurd i

      by_args : (n : ℕ) (ms : List ℕ) → ((m : ℕ) → In m ms → get_or args n v.Absent ≡ get_or args m v.Absent) → In g (map (guard.Args n) ms) → guard_holds args g ≡ true
      by_args n ms is i = let r = in_map_back (guard.Args n) ms g i in
          subst (λ z. guard_holds args z ≡ true) (r.2) (value_eq-same (get_or args n v.Absent) (get_or args (r.0) v.Absent) (is (r.0) (r.1)))

      go : (n : ℕ) (ns : List ℕ) (o : Option Value) → ((m : ℕ) → In m ns → get_or args n v.Absent ≡ get_or args m v.Absent) → ((c : Value) → o ≡ Some c → get_or args n v.Absent ≡ c)
          → In g (guards_by n ns o) → guard_holds args g ≡ true
      go n [] o is ic i = absurd i
      go n (m ∷ ms) o is ic i = choose (n == m) i
        where
          choose : (b : Bool) → In g (cond b (map (guard.Args n) ms ++ constant_guard n o) []) → guard_holds args g ≡ true
          choose true j = ⊎_elim (by_args n ms (λ k l. is k (inr l))) (by_constant n o ic) (in_append_back (map (guard.Args n) ms) (constant_guard n o) g j)
          choose false j = absurd j

  -- The pair has a pattern, and it fires.
  pub pair_fires : (site : ℕ) → (pattern : Pattern) × (pattern_by same site p ≡ Some pattern) × Fires args site keys pattern
  pair_fires site =
      let pattern : Pattern = record { site = site; keys = map (key_at same p) (range_with_len 0 p.keys); guards = guards_of same p } in (
        pattern,
        subst (λ b. cond b (Some pattern) None ≡ Some pattern) (sym consistent) refl,
        record {
          guards = all_from (guard_holds args) (guards_of same p) guard_true;
          at_site = eq-eqb site site refl;
          at_key = matches_from args (key_at same p) 0 keys p.keys holds.key_count
              (λ i small. subst (λ m. position_matches (fixed_at args (key_at same p m)) (get_or keys i v.Absent) ≡ true) (let z : i ≡ 0 + i = omega arith in z) (position i small));
        },
      )
