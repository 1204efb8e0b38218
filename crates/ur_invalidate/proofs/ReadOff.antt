-- What is read off the classes of a pair's terms is what the test of those classes reads off.
use Rattle.std.proofs.Common.{◌≡◌, ℕ, zero, suc, ◌+◌, Bool, true, false, not, ◌&&◌, ◌||◌, ◌==◌, cond, List, [], ◌∷◌, ◌++◌, map, flat_map, filter, find, Option, Some, None, option_map, refl, sym, ap, ap₂, ◌∙◌}
use Rattle.std.specs.List.{list_any, range_with_len, enumerate_from}
use Rattle.ur_values.specs.declared.value.Value.{Value}
use Rattle.ur_values.specs.Order.{value_eq}
use Rattle.ur_sql.specs.declared.term.SqlTerm.{SqlTerm}
use Rattle.ur_sql.specs.declared.term.SqlTerm.TheVariants as t
use Rattle.ur_sql.specs.declared.pattern.Pattern.{Pattern}
use Rattle.ur_sql.specs.declared.pattern.KeyAt.{KeyAt}
use Rattle.ur_sql.specs.declared.pattern.Guard.{Guard}
use Rattle.ur_conditions.specs.Disjuncts.{Equation}
use Rattle.ur_conditions.specs.declared.pair.Pair.{Pair}
use Rattle.ur_conditions.specs.Patterns.{constants_of, is_consistent, args_in_class, constant_in_class, key_by, key_at, guards_by, guards_of, pattern_by, IsPatternOf}
use Rattle.ur_invalidate.specs.declared.classes.Classes.{Classes}
use Rattle.ur_invalidate.specs.PairClasses.{AreClassesOf, classes_by}
use Rattle.ur_invalidate.specs.Reading.{clash, have_clash, have_equal_sides, are_consistent, members, constant_in, key_in, guards_at, guards_in, pattern_from}

any_map : {X Y : Type 0} (p : Y → Bool) (f : X → Y) (xs : List X) → list_any p (map f xs) ≡ list_any (λ x. p (f x)) xs
any_map p f [] = refl
any_map p f (x ∷ xs) = ap (λ b. p (f x) || b) (any_map p f xs)

any_agree : {X : Type 0} (p q : X → Bool) (xs : List X) → ((x : X) → p x ≡ q x) → list_any p xs ≡ list_any q xs
any_agree p q [] h = refl
any_agree p q (x ∷ xs) h = ap₂ (λ a b. a || b) (h x) (any_agree p q xs h)

map_map : {X Y Z : Type 0} (f : Y → Z) (g : X → Y) (xs : List X) → map f (map g xs) ≡ map (λ x. f (g x)) xs
map_map f g [] = refl
map_map f g (x ∷ xs) = ap (λ ys. f (g x) ∷ ys) (map_map f g xs)

map_agree : {X Y : Type 0} (f g : X → Y) (xs : List X) → ((x : X) → f x ≡ g x) → map f xs ≡ map g xs
map_agree f g [] h = refl
map_agree f g (x ∷ xs) h = ap₂ (λ y ys. y ∷ ys) (h x) (map_agree f g xs h)

-- the items of a class, by number
members_of : (f : ℕ → ℕ) (class o k : ℕ) → members class o (map f (range_with_len o k)) ≡ filter (λ n. class == f n) (range_with_len o k)
members_of f class o zero = refl
members_of f class o (suc k) = ap (λ l. cond (class == f o) (o ∷ l) l) (members_of f class (o + 1) k)

-- each item with its number
guards_over : (f : ℕ → ℕ) (g : ℕ × ℕ → List Guard) (o k : ℕ) → flat_map g (enumerate_from o (map f (range_with_len o k))) ≡ flat_map (λ n. g (n, f n)) (range_with_len o k)
guards_over f g o zero = refl
guards_over f g o (suc k) = ap (λ l. g (o, f o) ++ l) (guards_over f g (o + 1) k)

module _ (class : SqlTerm → ℕ) (p : Pair) where
  abbrev same : SqlTerm → SqlTerm → Bool
  same a b = class a == class b

  abbrev with_class : Value → Value × ℕ
  with_class c = (c, class (t.Constant c))

  abbrev sides : Equation → ℕ × ℕ
  sides d = (class (d.0), class (d.1))

  first_constant : (k : ℕ) (cs : List Value) → constant_in k (map with_class cs) ≡ find (λ c. k == class (t.Constant c)) cs
  first_constant k [] = refl
  first_constant k (c ∷ cs) = go (k == class (t.Constant c)) (first_constant k cs)
    where
      go : (b : Bool) → constant_in k (map with_class cs) ≡ find (λ d. k == class (t.Constant d)) cs
          → option_map (λ (x : Value × ℕ). x.0) (cond b (Some (with_class c)) (find (λ (x : Value × ℕ). k == x.1) (map with_class cs))) ≡ cond b (Some c) (find (λ d. k == class (t.Constant d)) cs)
      go true e = refl
      go false e = e

  clashes : have_clash (map with_class (constants_of p)) ≡ list_any (λ c. list_any (λ d. not (value_eq c d) && same (t.Constant c) (t.Constant d)) (constants_of p)) (constants_of p)
  clashes =
      any_map (λ c. list_any (clash c) (map with_class (constants_of p))) with_class (constants_of p)
      ∙ any_agree (λ c. list_any (clash (with_class c)) (map with_class (constants_of p))) (λ c. list_any (λ d. not (value_eq c d) && same (t.Constant c) (t.Constant d)) (constants_of p)) (constants_of p)
      (λ c. any_map (clash (with_class c)) with_class (constants_of p))

  equal_sides : have_equal_sides (map sides p.disequations) ≡ list_any (λ (d : Equation). same (d.0) (d.1)) p.disequations
  equal_sides = any_map (λ (s : ℕ × ℕ). s.0 == s.1) sides p.disequations

  abbrev classes : Classes
  classes = classes_by class p

  consistent : are_consistent classes ≡ is_consistent same p
  consistent = ap₂ (λ a b. not a && not classes.null_meets_some && not b) clashes equal_sides

  in_class : (a : SqlTerm) → key_by (members (class a) 0 classes.args) (constant_in (class a) classes.constants) ≡ key_by (args_in_class same p a) (constant_in_class same p a)
  in_class a = ap₂ key_by (members_of (λ n. class (t.Arg n)) (class a) 0 p.args) (first_constant (class a) (constants_of p))

  keys : map (key_in classes) classes.keys ≡ map (key_at same p) (range_with_len 0 p.keys)
  keys = map_map (key_in classes) (λ k. class (t.Key k)) (range_with_len 0 p.keys) ∙ map_agree (λ k. key_in classes (class (t.Key k))) (key_at same p) (range_with_len 0 p.keys) (λ k. in_class (t.Key k))

  guards : guards_in classes ≡ guards_of same p
  guards = guards_over (λ n. class (t.Arg n)) (guards_at classes) 0 p.args ∙ flat_agree (range_with_len 0 p.args)
    where
      flat_agree : (ns : List ℕ) → flat_map (λ n. guards_at classes (n, class (t.Arg n))) ns ≡ flat_map (λ n. guards_by n (args_in_class same p (t.Arg n)) (constant_in_class same p (t.Arg n))) ns
      flat_agree [] = refl
      flat_agree (n ∷ ns) = ap₂ (λ a b. a ++ b) (ap₂ (guards_by n) (members_of (λ m. class (t.Arg m)) (class (t.Arg n)) 0 p.args) (first_constant (class (t.Arg n)) (constants_of p))) (flat_agree ns)

  pub read_off : (site : ℕ) → pattern_from site classes ≡ pattern_by same site p
  read_off site =
      ap₂ (λ (b : Bool) (o : Option Pattern). cond b o None) consistent
      (ap₂ (λ ks gs. Some (record { site = site; keys = ks; guards = gs })) keys guards)

pub pattern_of_classes : (site : ℕ) (p : Pair) (classes : Classes) (pattern : Option Pattern) → AreClassesOf p classes → pattern ≡ pattern_from site classes → IsPatternOf site p pattern
pattern_of_classes site p classes pattern are is = record {
  same = λ a b. are.class a == are.class b;
  tells = are.tells;
  read_off = is ∙ ap (pattern_from site) are.are ∙ read_off are.class p site;
}
