-- Names in byte order.
use Rattle.std.proofs.Common.{◌≡◌, ◌≢◌, refl, sym, ◌∙◌, ap, subst, arith, ℕ, true≢false, List, [], ◌∷◌, All, Contains}
use Rattle.std.specs.Prelude.{bytes_eq, AllPairs, ◌↔◌}
use Rattle.std.specs.Bool.{IsTrue}
use Rattle.std.specs.Ordering.{nat_cmp, is_le, is_eq, eq_by_cmp}
use Rattle.std.specs.declared.cmp.Ordering.TheVariants.{Less}
use Rattle.std.specs.List.{dedup, AllByRecursion}
use Rattle.std.specs.List.Sorted.{IsPermutation, IsSorted, IsStrictlySortedBy}
use Rattle.std.specs.Cmp.Lexicographic.{slice_cmp}
use Rattle.std.proofs.lemmas.Bool.Decides.{nat_tests}
use Rattle.std.proofs.lemmas.Cmp.{nat_list_cmp_total, nat_list_eq_equiv, same_from_slice_cmp}
use Rattle.std.specs.List.Retain.{IsFiltered, DiffersFromLast}
use Rattle.std.proofs.lemmas.List.Filters.{dedup_is}
use Rattle.std.proofs.lemmas.Slice.Eq.{bytes_eq-Decides}
use Rattle.std.proofs.lemmas.Map.Text.{is_eq-slice_cmp}
use Rattle.std.proofs.lemmas.List.Elements.{All-cons, All-nil}
use Rattle.std.proofs.lemmas.List.Sorted.{Contains-permutation, IsPermutation-sym}
use Rattle.std.proofs.lemmas.List.Kept.{AllPairs-cons, Contains-from_dedup, Contains-dedup, IsStrictlySortedBy-dedup}
use Rattle.ur_rows.specs.Order.{is_not_after}

told : (xs ys : List ℕ) → is_le (slice_cmp nat_cmp xs ys) ≡ is_not_after xs ys
told xs ys = same_from_slice_cmp nat_cmp is_le is_not_after refl (λ _ _. refl) (λ _ _. refl) (λ x y zs ws o h. grind (arith, nat_tests)) xs ys (slice_cmp nat_cmp xs ys) refl

abbrev pub Rises : List ℕ → List ℕ → Type 0
Rises a b = IsTrue (is_not_after a b) × (a ≢ b)

rises : (a b : List ℕ) → slice_cmp nat_cmp a b ≡ Less → Rises a b
rises a b e = (sym (told a b) ∙ ap is_le e, λ p. absurd (true≢false (sym ((bytes_eq-Decides a b).1 p) ∙ sym (is_eq-slice_cmp a b) ∙ ap is_eq e)))

each : (a : List ℕ) (xs : List (List ℕ)) → AllByRecursion (λ b. slice_cmp nat_cmp a b ≡ Less) xs → All (Rises a) xs
each a [] h = All-nil (Rises a)
each a (x ∷ xs) h = All-cons (Rises a) x xs (rises a x h.0) (each a xs h.1)

all-rise : (xs : List (List ℕ)) → IsStrictlySortedBy (slice_cmp nat_cmp) xs → AllPairs Rises xs
unfolding IsStrictlySortedBy
all-rise [] h = λ i j d k l. absurd (omega arith)
all-rise (x ∷ xs) h = AllPairs-cons Rises x xs (each x xs h.0) (all-rise xs h.1)

ties : (x y : List ℕ) → bytes_eq x y ≡ eq_by_cmp (slice_cmp nat_cmp) x y
ties x y = sym (is_eq-slice_cmp x y)

-- names that are sorted, and of which each is kept once
pub order-rises : (sorted once list : List (List ℕ)) → IsSorted (slice_cmp nat_cmp) sorted → IsFiltered (DiffersFromLast bytes_eq) [] sorted once →
    list ≡ once → AllPairs Rises list
order-rises sorted once list s f e = subst (AllPairs Rises) (sym (e ∙ dedup_is bytes_eq sorted once f)) (all-rise (dedup bytes_eq sorted) (IsStrictlySortedBy-dedup nat_list_cmp_total ties sorted s))

pub order-same : (names sorted once list : List (List ℕ)) → IsPermutation names sorted → IsFiltered (DiffersFromLast bytes_eq) [] sorted once → list ≡ once →
    (x : List ℕ) → Contains list x ↔ Contains names x
order-same names sorted once list p f e x =
    let is : list ≡ dedup bytes_eq sorted = e ∙ dedup_is bytes_eq sorted once f in (
      λ h. Contains-permutation sorted names x (IsPermutation-sym names sorted p) (Contains-from_dedup bytes_eq sorted x (subst (λ z. Contains z x) is h)),
      λ h. subst (λ z. Contains z x) (sym is) (Contains-dedup nat_list_eq_equiv (λ a b. (bytes_eq-Decides a b).0) sorted x (Contains-permutation names sorted x p h)),
    )

-- what occurs in one list occurs in another
pub occurs-in : (list names all : List (List ℕ)) → names ≡ all → ((x : List ℕ) → Contains list x ↔ Contains names x) → (x : List ℕ) →
    Contains list x ↔ Contains all x
occurs-in list names all e f x = subst (λ z. Contains list x ↔ Contains z x) e (f x)
