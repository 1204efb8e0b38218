-- Counts of sessions and of marks.
use Rattle.std.proofs.Common.{◌≡◌, ◌⊎◌, inl, inr, ℕ, zero, suc, ◌+◌, ◌≤◌, min, Bool, true, false, if◌then◌else◌, List, [], ◌∷◌, ◌++◌, All, Any, refl}
use Rattle.std.proofs.Common.{sym, ap, subst, ◌∙◌, arith}
use Rattle.std.specs.Prelude.{sum_by}
use Rattle.std.specs.List.{list_any, AllByRecursion}
use Rattle.std.proofs.lemmas.List.Elements.{All-from_recursion}
use Rattle.std.proofs.lemmas.List.Sums.{sum_by_push, sum_by-cons}
use Rattle.ur_base.specs.Counts.{greatest_count, next_count, raised_by, Rose, RoseBy}
use Rattle.ur_io.specs.Calls.{count_after}
use Rattle.ur_io.specs.declared.session.SessionEnd.{SessionEnd}
use Rattle.ur_io.specs.declared.session.Mark.{Mark}
use Rattle.ur_io.specs.declared.session.Mark.TheVariants as mark
use Rattle.ur_headline.specs.Counting.{is_keeper, keeper_fault, keeper_faults, AllDone, AnyWants}

-- ---- sums

-- one more at the end
pub sum_last : {A : Type 0} (f : A → ℕ) (xs : List A) (x : A) → sum_by f (xs ++ x ∷ []) ≡ sum_by f xs + f x
sum_last f xs x = sum_by_push f xs x

-- no faults yet
pub rose_none : (old new : ℕ) → old ≤ new → RoseBy 0 old new
rose_none old new le = grind arith

-- no fault more, and the count did not fall
pub rose_later : (n old mid new : ℕ) → RoseBy n old mid → mid ≤ new → RoseBy n old new
rose_later n old mid new h le = grind arith

-- at least one fault in all
pub rose_first : (n old new : ℕ) → RoseBy (suc n) old new → Rose old new
rose_first n old new h = grind arith

-- ---- counts of calls that failed

-- so many, and then so many more
pub count_sum : (n k old : ℕ) → count_after (n + k) old ≡ count_after k (count_after n old)
count_sum n zero old =
    let same : n + 0 ≡ n = omega arith in
    ap (λ m. count_after m old) same
count_sum n (suc k) old =
    let more : n + suc k ≡ suc (n + k) = omega arith in
    ap (λ m. count_after m old) more ∙ ap next_count (count_sum n k old)

-- one more
pub count_one : (n old : ℕ) → next_count (count_after n old) ≡ count_after (n + 1) old
count_one n old =
    let more : suc n ≡ n + 1 = omega arith in
    ap (λ m. count_after m old) more

one_step : (g old n c : ℕ) → min (old + n) g ≤ c → min (old + suc n) g ≤ min (c + 1) g
one_step g old n c h = grind (arith, h)

raised_counted : (n old : ℕ) → raised_by n old ≤ count_after n old
raised_counted zero old = grind arith
raised_counted (suc n) old = one_step greatest_count old n (count_after n old) (raised_counted n old)

-- a count that rose so often rose by so many
pub rose_counted : (n old new : ℕ) → new ≡ count_after n old → RoseBy n old new
rose_counted n old new is = subst (λ m. raised_by n old ≤ m) (sym is) (raised_counted n old)

two_steps : (g old n : ℕ) → min (min (old + n) g + 1) g ≡ min (old + suc n) g
two_steps g old n = grind arith

-- of a count of 64 bits it is the one that is raised by so many
pub count_raised : (n old : ℕ) → old ≤ greatest_count → count_after n old ≡ raised_by n old
count_raised zero old within = grind (arith, within)
count_raised (suc n) old within = ap next_count (count_raised n old within) ∙ two_steps greatest_count old n

-- ---- marks

any_here : {A : Type 0} {P : A → Type 0} (x : A) (xs : List A) → P x → Any P (x ∷ xs)
any_here x xs p = (0, x, omega arith, refl, p)

any_later : {A : Type 0} {P : A → Type 0} (x : A) (xs : List A) → Any P xs → Any P (x ∷ xs)
any_later x xs (k, y, within, is, p) = (suc k, y, omega (arith, within), is, p)

abbrev MarksDone : List Mark → Type 0
MarksDone = AllByRecursion (λ m. m ≡ mark.Done)

-- marks without a keeper's fault are all Done, or memory was wanting
done_or_want : (marks : List Mark) → list_any is_keeper marks ≡ false → MarksDone marks ⊎ Any (λ m. m ≡ mark.Memory) marks
done_or_want [] e = inl tt
done_or_want (mark.Done ∷ marks) e = more (done_or_want marks e)
  where
    more : MarksDone marks ⊎ Any (λ m. m ≡ mark.Memory) marks → MarksDone (mark.Done ∷ marks) ⊎ Any (λ m. m ≡ mark.Memory) (mark.Done ∷ marks)
    more (inl d) = inl (refl, d)
    more (inr w) = inr (any_later mark.Done marks w)
done_or_want (mark.Memory ∷ marks) e = inr (any_here mark.Memory marks refl)
done_or_want (mark.Keeper ∷ marks) e = cc

abbrev one_if : Bool → ℕ
one_if b = if b then 1 else 0

no_fault : (b : Bool) → one_if b ≡ 0 → b ≡ false
no_fault true e = cc
no_fault false e = refl

abbrev SessionsDone : List SessionEnd → Type 0
SessionsDone = AllByRecursion (λ s. All (λ m. m ≡ mark.Done) s.marks)

sessions_whole : (sessions : List SessionEnd) → keeper_faults sessions ≡ 0 → SessionsDone sessions ⊎ AnyWants sessions
sessions_whole [] e = inl tt
sessions_whole (s ∷ sessions) e =
    let parts : keeper_faults (s ∷ sessions) ≡ keeper_fault s + keeper_faults sessions = sum_by-cons keeper_fault s sessions in
    let here : keeper_fault s ≡ 0 = omega (arith, e, parts) in
    let later : keeper_faults sessions ≡ 0 = omega (arith, e, parts) in
    both (done_or_want s.marks (no_fault (list_any is_keeper s.marks) here)) (sessions_whole sessions later)
  where
    both : MarksDone s.marks ⊎ Any (λ m. m ≡ mark.Memory) s.marks → SessionsDone sessions ⊎ AnyWants sessions → SessionsDone (s ∷ sessions) ⊎ AnyWants (s ∷ sessions)
    both (inl d) (inl ds) = inl (All-from_recursion (λ m. m ≡ mark.Done) s.marks d, ds)
    both (inl d) (inr w) = inr (any_later s sessions w)
    both (inr w) others = inr (any_here s sessions w)

-- where the keeper's count did not rise, all marks are Done, or memory was wanting
pub all_done_or_want : (sessions : List SessionEnd) (old new : ℕ) → RoseBy (keeper_faults sessions) old new → (Rose old new → ⊥) →
    AllDone sessions ⊎ AnyWants sessions
all_done_or_want sessions old new by none = as_all (sessions_whole sessions (count (keeper_faults sessions) by))
  where
    count : (n : ℕ) → RoseBy n old new → n ≡ 0
    count zero h = refl
    count (suc n) h = absurd (none (rose_first n old new h))

    as_all : SessionsDone sessions ⊎ AnyWants sessions → AllDone sessions ⊎ AnyWants sessions
    as_all (inl d) = inl (All-from_recursion (λ (s : SessionEnd). All (λ m. m ≡ mark.Done) s.marks) sessions d)
    as_all (inr w) = inr w
