-- Entries in any order, and the same in the order of their numbers.
use Rattle.std.proofs.Common.{◌≡◌, ℕ, ℤ, Bool, true, false, cond, List, [], ◌∷◌, ◌++◌, map, All, Option, Some, None, T, refl, sym, ap, subst, ◌∙◌}
use Rattle.std.proofs.lemmas.List.{map-append}
use Rattle.std.specs.declared.cmp.Ordering.{Ordering}
use Rattle.std.specs.declared.cmp.Ordering.TheVariants.{Less, Equal, Greater}
use Rattle.std.specs.Ordering.{int_cmp, eq_by_cmp, is_eq, is_lt}
use Rattle.std.specs.Cmp.{int_cmp_total}
use Rattle.std.specs.List.{AllByRecursion}
use Rattle.std.specs.List.Sorted.{IsPermutation}
use Rattle.std.specs.FinMap.{find, is_sorted, int_cmp-IsAntisymmetric}
use Rattle.std.specs.FinMap.Entries.{below_all}
use Rattle.std.proofs.lemmas.List.Sorted.{All-permutation, IsPermutation-sym}
use Rattle.std.proofs.lemmas.List.Elements.{All-from_recursion, recursion_from_All}
use Rattle.ur_keeper_bodies.proofs.Places.{both, first, second}
use Rattle.sqlite.specs.Order.{Row}
use Rattle.ur_sqlkeeper.specs.Entries.{Entry, Above, EndsAt, entry_in, is_below}

-- ---- a number after all others

less-is : (r : Ordering) → T (is_lt r) → r ≡ Less
less-is Less p = refl
less-is Equal p = absurd p
less-is Greater p = absurd p

below-pushed : (n : ℤ) (es : List Entry) (e : Entry) → T (below_all int_cmp n es) → T (is_lt (int_cmp n e.0)) → T (below_all int_cmp n (es ++ e ∷ []))
below-pushed n [] e h p = both _ _ p tt
below-pushed n (x ∷ es) e h p = both _ _ (first _ _ h) (below-pushed n es e (second _ _ h) p)

pub sorted-pushed : (es : List Entry) (e : Entry) → T (is_sorted int_cmp es) → T (is_below e.0 es) → T (is_sorted int_cmp (es ++ e ∷ []))
sorted-pushed [] e h p = tt
sorted-pushed (x ∷ es) e h p = both _ _ (below-pushed x.0 es e (first _ _ h) (first _ _ p)) (sorted-pushed es e (second _ _ h) (second _ _ p))

-- what is below a number is below each greater one
below-greater : (n k : ℤ) (es : List Entry) → T (is_lt (int_cmp n k)) → T (is_below n es) → T (is_below k es)
below-greater n k [] p h = tt
below-greater n k (x ∷ es) p h =
    both _ _ (subst (λ r. T (is_lt r)) (sym (int_cmp_total.trans x.0 n k (less-is _ (first _ _ h)) (less-is _ p))) tt) (below-greater n k es p (second _ _ h))

pub below-pushed-all : (k : ℤ) (es : List Entry) (e : Entry) → T (is_below e.0 es) → T (is_lt (int_cmp e.0 k)) → T (is_below k (es ++ e ∷ []))
below-pushed-all k es e h p = pushed es (below-greater e.0 k es p h)
  where
    pushed : (xs : List Entry) → T (is_below k xs) → T (is_below k (xs ++ e ∷ []))
    pushed [] q = both _ _ p tt
    pushed (x ∷ xs) q = both _ _ (first _ _ q) (pushed xs (second _ _ q))

-- ---- what is found

module _ (n : ℤ) where
  abbrev Leads : List Entry → Entry → Type 0
  Leads es e = eq_by_cmp int_cmp n e.0 ≡ true → find int_cmp n es ≡ Some e.1

  equal : (r : Ordering) → is_eq r ≡ true → r ≡ Equal
  equal Less p = absurd (subst T (sym p) tt)
  equal Equal p = refl
  equal Greater p = absurd (subst T (sym p) tt)

  -- a row before the others, whose numbers are greater, hides none of them
  past : (k : Entry) (all es : List Entry) → T (below_all int_cmp k.0 es) → AllByRecursion (Leads all) es → AllByRecursion (Leads (k ∷ all)) es
  past k all [] b h = tt
  past k all (e ∷ es) b h = (λ same. ap (λ c. cond c (Some k.1) (find int_cmp n all)) (differs e same (first _ _ b)) ∙ h.0 same, past k all es (second _ _ b) h.1)
    where
      differs : (e : Entry) → eq_by_cmp int_cmp n e.0 ≡ true → T (is_lt (int_cmp k.0 e.0)) → eq_by_cmp int_cmp n k.0 ≡ false
      differs e same less = elim (eq_by_cmp int_cmp n k.0) as (λ b. eq_by_cmp int_cmp n k.0 ≡ b → b ≡ false) [
        | true ↦ λ p. absurd (subst (λ r. T (is_lt r)) (sym (int_cmp_total.congr n k.0 e.0 (equal _ p)) ∙ equal _ same) less)
        | false ↦ λ _. refl
      ] refl

  each-leads : (es : List Entry) → T (is_sorted int_cmp es) → AllByRecursion (Leads es) es
  each-leads [] h = tt
  each-leads (e ∷ es) h = (λ same. ap (λ c. cond c (Some e.1) (find int_cmp n es)) same, past e es es (first _ _ h) (each-leads es (second _ _ h)))

  led : (all es : List Entry) (v : List ℕ) → find int_cmp n es ≡ Some v → AllByRecursion (Leads all) es → find int_cmp n all ≡ Some v
  led all [] v e h = absurd (no_value e)
    where
      no_value : {A : Type 0} {a : A} → None ≡ Some a → ⊥
      no_value e = cc
  led all (k ∷ es) v e h = elim (eq_by_cmp int_cmp n k.0) as (λ b. eq_by_cmp int_cmp n k.0 ≡ b → cond b (Some k.1) (find int_cmp n es) ≡ Some v → find int_cmp n all ≡ Some v) [
    | true ↦ λ same f. h.0 same ∙ f
    | false ↦ λ _ f. led all es v f h.1
  ] refl e

  abbrev Misses : Entry → Type 0
  Misses e = eq_by_cmp int_cmp n e.0 ≡ false

  each-misses : (es : List Entry) → find int_cmp n es ≡ None → AllByRecursion Misses es
  each-misses [] h = tt
  each-misses (k ∷ es) h = elim (eq_by_cmp int_cmp n k.0) as (λ b. eq_by_cmp int_cmp n k.0 ≡ b → cond b (Some k.1) (find int_cmp n es) ≡ None → AllByRecursion Misses (k ∷ es)) [
    | true ↦ λ _ f. absurd (no_value f)
    | false ↦ λ p f. (p, each-misses es f)
  ] refl h
    where
      no_value : {A : Type 0} {a : A} → Some a ≡ None → ⊥
      no_value e = cc

  missed : (es : List Entry) → AllByRecursion Misses es → find int_cmp n es ≡ None
  missed [] h = refl
  missed (k ∷ es) h = ap (λ c. cond c (Some k.1) (find int_cmp n es)) h.0 ∙ missed es h.1

  -- the same is found in any order, where the numbers rise in one of them
  pub found-alike : (xs ys : List Entry) → IsPermutation xs ys → T (is_sorted int_cmp ys) → find int_cmp n xs ≡ find int_cmp n ys
  found-alike xs ys same rise = elim (find int_cmp n xs) as (λ o. find int_cmp n xs ≡ o → o ≡ find int_cmp n ys) [
    | None ↦ λ e. sym (missed ys (recursion_from_All Misses ys (All-permutation Misses xs ys same (All-from_recursion Misses xs (each-misses xs e)))))
    | Some v ↦ λ e. sym (led ys xs v e (recursion_from_All (Leads ys) xs (All-permutation (Leads ys) ys xs (IsPermutation-sym xs ys same) (All-from_recursion (Leads ys) ys (each-leads ys rise)))))
  ] refl

-- ---- the rows of an answer in turn

pub record SoFar (rows : List Row) (found : List Entry) (last : Option ℤ) : Type 0 where
  pub are : found ≡ map entry_in rows
  pub rise : T (is_sorted int_cmp found)
  pub ends : EndsAt found last

pub none-so-far : SoFar [] [] None
none-so-far = record { are = refl; rise = tt; ends = λ n h. tt }

pub one-more : (rows rows' : List Row) (row : Row) (found found' : List Entry) (last : Option ℤ) (e : Entry) → SoFar rows found last → rows' ≡ rows ++ row ∷ [] → e ≡ entry_in row → Above last e.0 → found' ≡ found ++ e ∷ []
    → SoFar rows' found' (Some e.0)
one-more rows rows' row found found' last e h more is above pushed =
    let below = h.ends e.0 above in record {
      are = pushed ∙ ap (λ (xs : List Entry). xs ++ e ∷ []) h.are ∙ ap (λ (x : Entry). map entry_in rows ++ x ∷ []) is ∙ sym (map-append entry_in rows (row ∷ [])) ∙ ap (map entry_in) (sym more);
      rise = subst (λ (xs : List Entry). T (is_sorted int_cmp xs)) (sym pushed) (sorted-pushed found e h.rise below);
      ends = λ n less. subst (λ (xs : List Entry). T (is_below n xs)) (sym pushed) (below-pushed-all n found e below less);
    }
