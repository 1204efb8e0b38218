-- A pair has one pattern at most: any two tests that tell its classes read off the same.
use Rattle.std.proofs.Common.{◌≡◌, ℕ, Bool, true, false, not, cond, ◌&&◌, ◌||◌, inl, inr, List, [], ◌∷◌, ◌++◌, map, flat_map, refl, sym, ap, ap₂, ◌∙◌, filter, find, Option, Some, None, ◌<◌, arith}
use Rattle.std.specs.List.{list_any, range_with_len}
use Rattle.ur_values.specs.Order.{value_eq}
use Rattle.ur_sql.specs.declared.term.SqlTerm.{SqlTerm}
use Rattle.ur_sql.specs.declared.term.SqlTerm.TheVariants as t
use Rattle.ur_sql.specs.declared.pattern.Pattern.{Pattern}
use Rattle.ur_conditions.specs.Disjuncts.{Equation}
use Rattle.ur_conditions.specs.declared.pair.Pair.{Pair}
use Rattle.ur_conditions.specs.Pairs.{terms_of, TellsClasses}
use Rattle.ur_conditions.specs.Patterns.{Test, constants_of, somes_of, is_some, is_null, is_consistent, args_in_class, constant_in_class, key_by, key_at, guards_by, pattern_by, IsPatternOf}
use Rattle.ur_sql.proofs.Members.{In, contains_from_in, in_filter, in_range_back}
use Rattle.ur_conditions.proofs.Fires.{left_term, right_term, key_term, arg_term, constant_term}

-- ---- what agrees at each member

any_agree : {X : Type 0} (p q : X → Bool) (xs : List X) → ((x : X) → In x xs → p x ≡ q x) → list_any p xs ≡ list_any q xs
any_agree p q [] h = refl
any_agree p q (x ∷ xs) h = ap₂ ◌||◌ (h x (inl refl)) (any_agree p q xs (λ y i. h y (inr i)))

filter_agree_in : {X : Type 0} (p q : X → Bool) (xs : List X) → ((x : X) → In x xs → p x ≡ q x) → filter p xs ≡ filter q xs
filter_agree_in p q [] h = refl
filter_agree_in {X} p q (x ∷ xs) h = ap₂ (λ (b : Bool) (rest : List X). cond b (x ∷ rest) rest) (h x (inl refl)) (filter_agree_in p q xs (λ y i. h y (inr i)))

find_agree_in : {X : Type 0} (p q : X → Bool) (xs : List X) → ((x : X) → In x xs → p x ≡ q x) → find p xs ≡ find q xs
find_agree_in p q [] h = refl
find_agree_in {X} p q (x ∷ xs) h = ap₂ (λ (b : Bool) (rest : Option X). cond b (Some x) rest) (h x (inl refl)) (find_agree_in p q xs (λ y i. h y (inr i)))

map_agree_in : {X Y : Type 0} (f g : X → Y) (xs : List X) → ((x : X) → In x xs → f x ≡ g x) → map f xs ≡ map g xs
map_agree_in f g [] h = refl
map_agree_in f g (x ∷ xs) h = ap₂ (λ y ys. y ∷ ys) (h x (inl refl)) (map_agree_in f g xs (λ y i. h y (inr i)))

flat_agree_in : {X Y : Type 0} (f g : X → List Y) (xs : List X) → ((x : X) → In x xs → f x ≡ g x) → flat_map f xs ≡ flat_map g xs
flat_agree_in f g [] h = refl
flat_agree_in f g (x ∷ xs) h = ap₂ (λ y ys. y ++ ys) (h x (inl refl)) (flat_agree_in f g xs (λ y i. h y (inr i)))

same_bool : (b c : Bool) → (b ≡ true → c ≡ true) → (c ≡ true → b ≡ true) → b ≡ c
same_bool true c f g = sym (f refl)
same_bool false true f g = g refl
same_bool false false f g = refl

module _ (p : Pair) (same other : Test) (tells : TellsClasses p same) (tells_too : TellsClasses p other) where
  agree : (a b : SqlTerm) → In a (terms_of p) → In b (terms_of p) → same a b ≡ other a b
  agree a b ia ib =
      let x = tells a b (contains_from_in (terms_of p) a ia) (contains_from_in (terms_of p) b ib) in
      let y = tells_too a b (contains_from_in (terms_of p) a ia) (contains_from_in (terms_of p) b ib) in
      same_bool (same a b) (other a b) (λ e. y.1 (x.0 e)) (λ e. x.1 (y.0 e))

  same_consistent : is_consistent same p ≡ is_consistent other p
  same_consistent =
      ap₂ (λ b c. b && not c)
      (ap₂ (λ b c. not b && not c)
      (any_agree (λ c. list_any (λ d. not (value_eq c d) && same (t.Constant c) (t.Constant d)) (constants_of p)) (λ c. list_any (λ d. not (value_eq c d) && other (t.Constant c) (t.Constant d)) (constants_of p)) (constants_of p)
      (λ c i. any_agree (λ d. not (value_eq c d) && same (t.Constant c) (t.Constant d)) (λ d. not (value_eq c d) && other (t.Constant c) (t.Constant d)) (constants_of p)
      (λ d j. ap (λ b. not (value_eq c d) && b) (agree (t.Constant c) (t.Constant d) (constant_term p c i) (constant_term p d j)))))
      (any_agree (λ c. is_null c && list_any (λ s. same (t.Constant c) s) (somes_of p))
      (λ c. is_null c && list_any (λ s. other (t.Constant c) s) (somes_of p)) (constants_of p)
      (λ c i. ap (λ b. is_null c && b) (any_agree (λ s. same (t.Constant c) s) (λ s. other (t.Constant c) s) (somes_of p)
      (λ s j. agree (t.Constant c) s (constant_term p c i) ((in_filter is_some (terms_of p) s j).0))))))
      (any_agree (λ (d : Equation). same (d.0) (d.1)) (λ (d : Equation). other (d.0) (d.1)) p.disequations (λ d i. agree (d.0) (d.1) (left_term p d i) (right_term p d i)))

  same_args : (a : SqlTerm) → In a (terms_of p) → args_in_class same p a ≡ args_in_class other p a
  same_args a i = filter_agree_in (λ n. same a (t.Arg n)) (λ n. other a (t.Arg n)) (range_with_len 0 p.args) (λ n j. agree a (t.Arg n) i (arg_term p n j))

  same_constant : (a : SqlTerm) → In a (terms_of p) → constant_in_class same p a ≡ constant_in_class other p a
  same_constant a i = find_agree_in (λ c. same a (t.Constant c)) (λ c. other a (t.Constant c)) (constants_of p) (λ c j. agree a (t.Constant c) i (constant_term p c j))

  pub same_pattern : (site : ℕ) → pattern_by same site p ≡ pattern_by other site p
  same_pattern site =
      ap₂ (λ (b : Bool) (o : Option Pattern). cond b o None) same_consistent
      (ap₂ (λ ks gs. Some (record { site = site; keys = ks; guards = gs }))
      (map_agree_in (key_at same p) (key_at other p) (range_with_len 0 p.keys)
      (λ n i. let r = in_range_back 0 p.keys n i in let small : n < p.keys = omega arith in
      ap₂ key_by (same_args (t.Key n) (key_term p n small)) (same_constant (t.Key n) (key_term p n small))))
      (flat_agree_in (λ n. guards_by n (args_in_class same p (t.Arg n)) (constant_in_class same p (t.Arg n))) (λ n. guards_by n (args_in_class other p (t.Arg n)) (constant_in_class other p (t.Arg n))) (range_with_len 0 p.args)
      (λ n i. ap₂ (guards_by n) (same_args (t.Arg n) (arg_term p n i)) (same_constant (t.Arg n) (arg_term p n i)))))

pub pattern_unique : (site : ℕ) (p : Pair) (a b : Option Pattern) → IsPatternOf site p a → IsPatternOf site p b → a ≡ b
pattern_unique site p a b x y = x.read_off ∙ same_pattern p x.same y.same x.tells y.tells site ∙ sym y.read_off
