-- Marks of functions that lead to an act.
use Rattle.std.proofs.Common.{◌≡◌, ℕ, zero, suc, ◌+◌, ◌<◌, ◌≤◌, ◌⊎◌, inl, inr, Bool, true, false, not, ◌||◌, cond, List, [], ◌∷◌, length, set, Option}
use Rattle.std.proofs.Common.{Some, None, Contains, All, refl, sym, ap, ◌∙◌, subst, arith, slice_get, slice_index_or, count_by, length-set}
use Rattle.std.proofs.Common.{zero-lt-suc, suc-le-suc}
use Rattle.std.specs.List.{list_any}
use Rattle.std.proofs.lemmas.Bool.{false≢true}
use Rattle.std.proofs.lemmas.Option.{slice_get_within, get_or_from_slice_get, none-some, same_Some}
use Rattle.std.proofs.lemmas.List.Sums.{sum_by-set}
use Rattle.std.proofs.lemmas.List.Elements.{Contains-append_right}
use Rattle.ur_pure.specs.declared.act.Act.{Act}
use Rattle.ur_pure.specs.declared.act.Act.TheVariants.{Calls, Asks, Touches}
use Rattle.ur_pure.specs.Spread.{sought, Leads, here, there, is_marked, due_one, due, AreSound, IsSettled, Looks, Passes}

-- ---- lists

-- what is set to true is true, and so is what was
pub set-true : (xs : List Bool) (f g : ℕ) → slice_get (set xs f true) g ≡ Some true → (f ≡ g) ⊎ (slice_get xs g ≡ Some true)
set-true [] f g e = absurd (none-some _ e)
set-true (z ∷ xs) zero zero e = inl refl
set-true (z ∷ xs) zero (suc g) e = inr e
set-true (z ∷ xs) (suc f) zero e = inr e
set-true (z ∷ xs) (suc f) (suc g) e = go (set-true xs f g e)
  where
    go : (f ≡ g) ⊎ (slice_get xs g ≡ Some true) → (suc f ≡ suc g) ⊎ (slice_get xs g ≡ Some true)
    go (inl a) = inl (ap suc a)
    go (inr b) = inr b

-- one fewer is false
pub count-set : (xs : List Bool) (f : ℕ) → slice_get xs f ≡ Some false → count_by not (set xs f true) + 1 ≡ count_by not xs
count-set xs f e =
    let both = sum_by-set (λ x. cond (not x) 1 0) xs f true true (slice_get_within xs f false e) in
    let was = subst (λ b. count_by not (set xs f true) + cond (not b) 1 0 ≡ count_by not xs + 0) (get_or_from_slice_get xs f false true e) both in
    omega (arith, was)

-- a test that holds of an element holds of some element
pub any_at : (p : Act → Bool) (as' : List Act) (a : Act) → Contains as' a → p a ≡ true → list_any p as' ≡ true
any_at p as' a h e = at as' h.0 h.1 h.2
  where
    at : (as' : List Act) (k : ℕ) → k < length as' → slice_index_or as' k a ≡ a → list_any p as' ≡ true
    at [] k less same = absurd (omega (arith, less))
    at (x ∷ as') zero less same = first (p x) (ap p same ∙ e)
      where
        first : (b : Bool) → b ≡ true → (b || list_any p as') ≡ true
        first true q = refl
        first false q = absurd (false≢true q)
    at (x ∷ as') (suc k) less same = later (p x) (at as' k (let l : k < length as' = omega (arith, less) in l) same)
      where
        later : (b : Bool) → list_any p as' ≡ true → (b || list_any p as') ≡ true
        later true q = refl
        later false q = q

-- an element of which a test holds, where it holds of some
pub some_at : (p : Act → Bool) (as' : List Act) → list_any p as' ≡ true → (a : Act) × Contains as' a × (p a ≡ true)
some_at p [] e = cc
some_at p (x ∷ as') e = decided (p x) refl e (some_at p as')
  where
    decided : (b : Bool) → p x ≡ b → (b || list_any p as') ≡ true → (list_any p as' ≡ true → (a : Act) × Contains as' a × (p a ≡ true))
        → (a : Act) × Contains (x ∷ as') a × (p a ≡ true)
    decided true h e rest = (x, (0, (let some : 0 < length (x ∷ as') = omega arith in some), refl), h)
    decided false h e rest = let found = rest e in (found.0, Contains-append_right (x ∷ []) as' found.0 found.1, found.2)

-- ---- marks

marked_there : (o : Option Bool) → is_marked o ≡ true → o ≡ Some true
marked_there None e = cc
marked_there (Some b) e = ap Some e

-- what is due leads to the act
due_leads : (all : List (List Act)) (asks : Bool) (marks : List Bool) (f : ℕ) (acts : List Act) → AreSound all asks marks → slice_get all f ≡ Some acts
    → due asks marks acts ≡ true → Leads all asks f
due_leads all asks marks f acts sound at e =
    let found = some_at (due_one asks marks) acts e in
    by found.0 found.1 found.2
  where
    sought_asks : (b : Bool) → b ≡ true → Asks ≡ sought b
    sought_asks true h = refl
    sought_asks false h = absurd (false≢true h)

    sought_touches : (b : Bool) → not b ≡ true → Touches ≡ sought b
    sought_touches true h = absurd (false≢true h)
    sought_touches false h = refl

    by : (a : Act) → Contains acts a → due_one asks marks a ≡ true → Leads all asks f
    by (Calls g) c h = there f g acts at c (sound g (marked_there (slice_get marks g) h))
    by Asks c h = here f acts at (subst (λ (a : Act). Contains acts a) (sought_asks asks h) c)
    by Touches c h = here f acts at (subst (λ (a : Act). Contains acts a) (sought_touches asks h) c)

-- where each function is settled, all that lead to the act are marked
pub settled_whole : (all : List (List Act)) (asks : Bool) (marks : List Bool) → ((f : ℕ) → f < length all → IsSettled all asks marks f) → (f : ℕ)
    → Leads all asks f → slice_get marks f ≡ Some true
settled_whole all asks marks settled _ (here f acts at c) = or_due (settled f (slice_get_within all f acts at) acts at)
  where
    sought_due : (b : Bool) → due_one b marks (sought b) ≡ true
    sought_due true = refl
    sought_due false = refl

    or_due : (slice_get marks f ≡ Some true) ⊎ (due asks marks acts ≡ false) → slice_get marks f ≡ Some true
    or_due (inl h) = h
    or_due (inr h) = absurd (false≢true (sym h ∙ any_at (due_one asks marks) acts (sought asks) c (sought_due asks)))
settled_whole all asks marks settled _ (there f g acts at c leads) =
    or_due (settled_whole all asks marks settled g leads) (settled f (slice_get_within all f acts at) acts at)
  where
    or_due : slice_get marks g ≡ Some true → (slice_get marks f ≡ Some true) ⊎ (due asks marks acts ≡ false) → slice_get marks f ≡ Some true
    or_due m (inl h) = h
    or_due m (inr h) = absurd (false≢true (sym h ∙ any_at (due_one asks marks) acts (Calls g) c (ap is_marked m)))

-- ---- one look

pub look_marked : (all : List (List Act)) (asks : Bool) (f : ℕ) (marks : List Bool) → slice_get marks f ≡ Some true → Looks all asks f marks marks false
look_marked all asks f marks h = record { size = refl; sound = λ s. s; fewer = λ e. absurd (false≢true e); same = λ e. (refl, λ acts at. inl h) }

pub look_idle : (all : List (List Act)) (asks : Bool) (f : ℕ) (marks : List Bool) (acts : List Act) → slice_get all f ≡ Some acts → due asks marks acts ≡ false
    → Looks all asks f marks marks false
look_idle all asks f marks acts at h = record {
  size = refl;
  sound = λ s. s;
  fewer = λ e. absurd (false≢true e);
  same = λ e. (refl, λ others there. inr (ap (due asks marks) (same_Some _ _ (sym there ∙ at)) ∙ h));
}

pub look_marks : (all : List (List Act)) (asks : Bool) (f : ℕ) (marks marks' : List Bool) (acts : List Act) → slice_get marks f ≡ Some false
    → slice_get all f ≡ Some acts → due asks marks acts ≡ true
    → marks' ≡ set marks f true → Looks all asks f marks marks' true
look_marks all asks f marks marks' acts was at h now = record {
  size = ap length now ∙ length-set marks f true;
  sound = λ s g e. by s g (set-true marks f g (subst (λ l. slice_get l g ≡ Some true) now e));
  fewer = λ e. let c = count-set marks f was in subst (λ l. count_by not l < count_by not marks) (sym now) (omega (arith, c));
  same = λ e. absurd (false≢true (sym e));
}
  where
    by : AreSound all asks marks → (g : ℕ) → (f ≡ g) ⊎ (slice_get marks g ≡ Some true) → Leads all asks g
    by s g (inl e) = subst (Leads all asks) e (due_leads all asks marks f acts s at h)
    by s g (inr e) = s g e

-- ---- a pass so far: the functions from a place on have been looked at

pub record PassSofar (all : List (List Act)) (asks : Bool) (marks marks' : List Bool) (left : ℕ) (grew : Bool) : Type 0 where
  pub size : length marks' ≡ length marks
  pub sound : AreSound all asks marks → AreSound all asks marks'
  pub fewer : grew ≡ true → count_by not marks' < count_by not marks
  pub same : grew ≡ false → (marks' ≡ marks) × ((f : ℕ) → left ≤ f → f < length all → IsSettled all asks marks f)

pub pass_begins : (all : List (List Act)) (asks : Bool) (marks : List Bool) → PassSofar all asks marks marks (length all) false
pass_begins all asks marks =
    record { size = refl; sound = λ s. s; fewer = λ e. absurd (false≢true e); same = λ e. (refl, λ f more less. absurd (omega (arith, more, less))) }

pub pass_marks : (all : List (List Act)) (asks : Bool) (marks marks₁ marks₂ : List Bool) (left n : ℕ) (grew : Bool) → PassSofar all asks marks marks₁ left grew
    → Looks all asks n marks₁ marks₂ true
    → PassSofar all asks marks marks₂ n true
pass_marks all asks marks marks₁ marks₂ left n grew p l = record {
  size = l.size ∙ p.size;
  sound = λ s. l.sound (p.sound s);
  fewer = λ e. decided grew refl;
  same = λ e. absurd (false≢true (sym e));
}
  where
    decided : (b : Bool) → grew ≡ b → count_by not marks₂ < count_by not marks
    decided true e = let a = p.fewer e in let b = l.fewer refl in omega (arith, a, b)
    decided false e = subst (λ m. count_by not marks₂ < count_by not m) (p.same e).0 (l.fewer refl)

pub pass_idle : (all : List (List Act)) (asks : Bool) (marks marks₁ marks₂ : List Bool) (left n : ℕ) (grew : Bool) → left ≤ suc n
    → PassSofar all asks marks marks₁ left grew → Looks all asks n marks₁ marks₂ false
    → PassSofar all asks marks marks₂ n grew
pass_idle all asks marks marks₁ marks₂ left n grew few p l = record {
  size = l.size ∙ p.size;
  sound = λ s. l.sound (p.sound s);
  fewer = λ e. subst (λ m. count_by not m < count_by not marks) (sym (l.same refl).0) (p.fewer e);
  same = λ e. ((l.same refl).0 ∙ (p.same e).0, λ f more less. at e f more less (last n f more));
}
  where
    last : (n f : ℕ) → n ≤ f → (n ≡ f) ⊎ (suc n ≤ f)
    last zero zero h = inl refl
    last zero (suc f) h = inr (omega arith)
    last (suc n) zero h = absurd (omega (arith, h))
    last (suc n) (suc f) h = up (last n f (omega (arith, h)))
      where
        up : (n ≡ f) ⊎ (suc n ≤ f) → (suc n ≡ suc f) ⊎ (suc (suc n) ≤ suc f)
        up (inl e) = inl (ap suc e)
        up (inr e) = inr (omega (arith, e))

    at : grew ≡ false → (f : ℕ) → n ≤ f → f < length all → (n ≡ f) ⊎ (suc n ≤ f) → IsSettled all asks marks f
    at e f more less (inl same) = subst (IsSettled all asks marks) same (subst (λ m. IsSettled all asks m n) (p.same e).0 (l.same refl).1)
    at e f more less (inr later) = (p.same e).1 f (omega (arith, few, later)) less

pub pass_ends : (all : List (List Act)) (asks : Bool) (marks marks' : List Bool) (left : ℕ) (grew : Bool) → left ≡ 0 → PassSofar all asks marks marks' left grew
    → Passes all asks marks marks' grew
pass_ends all asks marks marks' left grew none p = record {
  size = p.size;
  sound = p.sound;
  fewer = p.fewer;
  same = λ e. ((p.same e).0, λ f less. (p.same e).1 f (omega (arith, none)) less);
}

-- ---- all passes

all_false : (marks : List Bool) → All (λ m. m ≡ false) marks → (f : ℕ) → slice_get marks f ≡ Some true → ⊥
all_false [] h f e = none-some _ e
all_false (b ∷ marks) h zero e = false≢true (sym (h 0 b (zero-lt-suc (length marks))) ∙ same_Some _ _ e)
all_false (b ∷ marks) h (suc f) e = all_false marks (λ k d lt. h (suc k) d (suc-le-suc lt)) f e

pub none_sound : (all : List (List Act)) (asks : Bool) (marks : List Bool) → All (λ m. m ≡ false) marks → AreSound all asks marks
none_sound all asks marks none f e = absurd (all_false marks none f e)

abbrev pub left_over : List Bool → Bool → ℕ
left_over marks on = count_by not marks + cond on 1 0

pub pass_smaller : (all : List (List Act)) (asks : Bool) (marks marks' : List Bool) (grew on : Bool) → on ≡ true → Passes all asks marks marks' grew
    → left_over marks' grew < left_over marks on
pass_smaller all asks marks marks' grew on is p = subst (λ b. left_over marks' grew < count_by not marks + cond b 1 0) (sym is) (decided grew refl)
  where
    decided : (b : Bool) → grew ≡ b → left_over marks' grew < count_by not marks + 1
    decided true e = let less = p.fewer e in subst (λ b. count_by not marks' + cond b 1 0 < count_by not marks + 1) (sym e) (omega (arith, less))
    decided false e = subst (λ b. count_by not marks' + cond b 1 0 < count_by not marks + 1) (sym e)
        (subst (λ m. count_by not m + 0 < count_by not marks + 1) (sym (p.same e).0) (omega arith))

pub pass_settles : (all : List (List Act)) (asks : Bool) (marks marks' : List Bool) (grew : Bool) → Passes all asks marks marks' grew → grew ≡ false → (f : ℕ)
    → f < length all → IsSettled all asks marks' f
pass_settles all asks marks marks' grew p e f less = subst (λ m. IsSettled all asks m f) (sym (p.same e).0) ((p.same e).1 f less)
