-- Patterns that are kept once.
use Rattle.std.proofs.Common.{◌≡◌, ℕ, Bool, true, false, ◌&&◌, ◌==◌, cond, List, [], ◌∷◌, ◌++◌, Option, Some, None, refl, sym, ap, ap₂, ◌∙◌, filter_map}
use Rattle.std.specs.List.{list_any, AllZip, cons_option}
use Rattle.std.specs.Prelude.{option_to_list}
use Rattle.std.specs.Cmp.{IsEquivalence}
use Rattle.std.specs.Cmp.Lexicographic.{pointwise}
use Rattle.std.proofs.lemmas.Cmp.{eq_by_cmp_equiv, lists_equiv, nat_eq_equiv}
use Rattle.std.proofs.lemmas.Bool.{and_parts}
use Rattle.std.proofs.lemmas.List.Elements.{filter_map-append}
use Rattle.ur_values.specs.declared.value.Value.{Value}
use Rattle.ur_values.specs.Order.{value_eq}
use Rattle.ur_values.proofs.Order.{value_cmp_total}
use Rattle.ur_sql.specs.declared.pattern.Pattern.{Pattern}
use Rattle.ur_sql.specs.declared.pattern.KeyAt.{KeyAt}
use Rattle.ur_sql.specs.declared.pattern.KeyAt.TheVariants as key
use Rattle.ur_sql.specs.declared.pattern.Guard.{Guard}
use Rattle.ur_sql.specs.declared.pattern.Guard.TheVariants as guard
use Rattle.ur_sql.specs.Answer.{first_ones}
use Rattle.ur_sql.proofs.KeyedGroups.{any_first, first_push}
use Rattle.ur_conditions.specs.declared.pair.Pair.{Pair}
use Rattle.ur_conditions.specs.Patterns.{key_eq, guard_eq, pattern_eq, IsPatternOf, AreRead}

-- ---- equality of patterns is an equivalence

value_equiv : IsEquivalence value_eq
value_equiv = eq_by_cmp_equiv value_cmp_total

both_equiv : {X : Type 0} {E F : X → X → Bool} → IsEquivalence E → IsEquivalence F → IsEquivalence (λ x y. E x y && F x y)
both_equiv {X} {E} {F} e f = record {
  refl = λ x. ap₂ (λ b c. b && c) (e.refl x) (f.refl x);
  symm = λ x y. ap₂ (λ b c. b && c) (e.symm x y) (f.symm x y);
  congr = λ x y z h. let parts = and_parts (E x y) (F x y) h in ap₂ (λ b c. b && c) (e.congr x y z (parts.0)) (f.congr x y z (parts.1));
}

field_equiv : {X Y : Type 0} (f : X → Y) {E : Y → Y → Bool} → IsEquivalence E → IsEquivalence (λ x y. E (f x) (f y))
field_equiv f e = record { refl = λ x. e.refl (f x); symm = λ x y. e.symm (f x) (f y); congr = λ x y z h. e.congr (f x) (f y) (f z) h }

key_equiv : IsEquivalence key_eq
key_equiv = record { refl = same; symm = turned; congr = moved }
  where
    same : (a : KeyAt) → key_eq a a ≡ true
    same (key.Arg n) = nat_eq_equiv.refl n
    same (key.Is c) = value_equiv.refl c
    same key.Any = refl

    turned : (a b : KeyAt) → key_eq a b ≡ key_eq b a
    turned (key.Arg m) (key.Arg n) = nat_eq_equiv.symm m n
    turned (key.Arg m) (key.Is d) = refl
    turned (key.Arg m) key.Any = refl
    turned (key.Is c) (key.Arg n) = refl
    turned (key.Is c) (key.Is d) = value_equiv.symm c d
    turned (key.Is c) key.Any = refl
    turned key.Any (key.Arg n) = refl
    turned key.Any (key.Is d) = refl
    turned key.Any key.Any = refl

    moved : (a b c : KeyAt) → key_eq a b ≡ true → key_eq a c ≡ key_eq b c
    moved (key.Arg m) (key.Arg n) (key.Arg k) e = nat_eq_equiv.congr m n k e
    moved (key.Arg m) (key.Arg n) (key.Is d) e = refl
    moved (key.Arg m) (key.Arg n) key.Any e = refl
    moved (key.Arg m) (key.Is d) c e = cc
    moved (key.Arg m) key.Any c e = cc
    moved (key.Is x) (key.Arg n) c e = cc
    moved (key.Is x) (key.Is y) (key.Arg k) e = refl
    moved (key.Is x) (key.Is y) (key.Is z) e = value_equiv.congr x y z e
    moved (key.Is x) (key.Is y) key.Any e = refl
    moved (key.Is x) key.Any c e = cc
    moved key.Any (key.Arg n) c e = cc
    moved key.Any (key.Is d) c e = cc
    moved key.Any key.Any c e = refl

guard_equiv : IsEquivalence guard_eq
guard_equiv = record { refl = same; symm = turned; congr = moved }
  where
    same : (a : Guard) → guard_eq a a ≡ true
    same (guard.Args m n) = ap₂ (λ b c. b && c) (nat_eq_equiv.refl m) (nat_eq_equiv.refl n)
    same (guard.Is n c) = ap₂ (λ b c. b && c) (nat_eq_equiv.refl n) (value_equiv.refl c)

    turned : (a b : Guard) → guard_eq a b ≡ guard_eq b a
    turned (guard.Args m n) (guard.Args k l) = ap₂ (λ b c. b && c) (nat_eq_equiv.symm m k) (nat_eq_equiv.symm n l)
    turned (guard.Args m n) (guard.Is k d) = refl
    turned (guard.Is m c) (guard.Args k l) = refl
    turned (guard.Is m c) (guard.Is n d) = ap₂ (λ b c. b && c) (nat_eq_equiv.symm m n) (value_equiv.symm c d)

    moved : (a b c : Guard) → guard_eq a b ≡ true → guard_eq a c ≡ guard_eq b c
    moved (guard.Args m n) (guard.Args k l) (guard.Args i j) e = let parts = and_parts (m == k) (n == l) e in ap₂ (λ b c. b && c) (nat_eq_equiv.congr m k i (parts.0)) (nat_eq_equiv.congr n l j (parts.1))
    moved (guard.Args m n) (guard.Args k l) (guard.Is i d) e = refl
    moved (guard.Args m n) (guard.Is k d) c e = cc
    moved (guard.Is m x) (guard.Args k l) c e = cc
    moved (guard.Is m x) (guard.Is n y) (guard.Args i j) e = refl
    moved (guard.Is m x) (guard.Is n y) (guard.Is i z) e = let parts = and_parts (m == n) (value_eq x y) e in ap₂ (λ b c. b && c) (nat_eq_equiv.congr m n i (parts.0)) (value_equiv.congr x y z (parts.1))

pattern_equiv : IsEquivalence pattern_eq
pattern_equiv = both_equiv (both_equiv (field_equiv (λ (p : Pattern). p.site) nat_eq_equiv) (field_equiv (λ (p : Pattern). p.keys) (lists_equiv key_equiv))) (field_equiv (λ (p : Pattern). p.guards) (lists_equiv guard_equiv))

-- ---- one pattern more

pub kept_more : (from kept all : List Pattern) (pattern : Pattern) (b : Bool) → kept ≡ first_ones pattern_eq from → b ≡ list_any (λ other. pattern_eq other pattern) kept
    → all ≡ cond b kept (kept ++ pattern ∷ []) → all ≡ first_ones pattern_eq (from ++ pattern ∷ [])
kept_more from kept all pattern b are test is =
    is ∙ ap₂ (λ (c : Bool) (ks : List Pattern). cond c ks (ks ++ pattern ∷ []))
    (test ∙ ap (list_any (λ other. pattern_eq other pattern)) are ∙ any_first pattern_equiv pattern from) are
    ∙ sym (first_push pattern_equiv from pattern)

-- ---- one pair more

pub zip_push : {X Y : Type 0} (R : X → Y → Type 0) (xs : List X) (ys : List Y) (x : X) (y : Y) → AllZip R xs ys → R x y → AllZip R (xs ++ x ∷ []) (ys ++ y ∷ [])
zip_push R [] [] x y z h = (h, tt)
zip_push R [] (w ∷ ys) x y z h = absurd z
zip_push R (v ∷ xs) [] x y z h = absurd z
zip_push R (v ∷ xs) (w ∷ ys) x y z h = (z.0, zip_push R xs ys x y (z.1) h)

pub none_read : (site : ℕ) → AreRead site [] []
none_read site = record { each = []; of_pairs = tt; once = refl }

pub one_read : (site : ℕ) (pairs : List Pair) (p : Pair) (kept all : List Pattern) (o : Option Pattern) → AreRead site pairs kept → IsPatternOf site p o
    → ((from : List Pattern) → kept ≡ first_ones pattern_eq from → all ≡ first_ones pattern_eq (from ++ option_to_list o)) → AreRead site (pairs ++ p ∷ []) all
one_read site pairs p kept all o before is keeps = record {
  each = before.each ++ o ∷ [];
  of_pairs = zip_push (IsPatternOf site) pairs before.each p o before.of_pairs is;
  once = keeps (filter_map (λ (q : Option Pattern). q) before.each) before.once
      ∙ ap (first_ones pattern_eq) (ap (λ more. filter_map (λ (q : Option Pattern). q) before.each ++ more) (sym (single o)) ∙ sym (filter_map-append (λ (q : Option Pattern). q) before.each (o ∷ [])));
}
  where
    single : (q : Option Pattern) → filter_map (λ (r : Option Pattern). r) (q ∷ []) ≡ option_to_list q
    single None = refl
    single (Some pattern) = refl
