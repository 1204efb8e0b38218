-- What a search keeps, and why nothing is missed where nothing is left.
use Rattle.std.proofs.Common.{◌≡◌, ℕ, zero, suc, ◌+◌, ◌<◌, ◌≤◌, Bool, true, false, not, cond, ◌⊎◌, inl, inr, List, [], ◌∷◌, ◌++◌, length, map, set, fold, Option, Some, None, Contains, All, refl, sym, ap, ◌∙◌, subst, arith, slice_get, count_by, length-append, length-set, zero-lt-suc, suc-le-suc}
use Rattle.std.proofs.lemmas.Bool.{false≢true}
use Rattle.std.proofs.lemmas.Option.{slice_get_within, get_or_from_slice_get, none-some, same_Some}
use Rattle.std.proofs.lemmas.List.Sums.{sum_by-set}
use Rattle.ur_sql.proofs.Members.{In, in_from_contains, contains_from_in, in_map}
use Rattle.ur_terms.specs.declared.term.Function.{Function}
use Rattle.ur_terms.specs.Shape.{Deed, calls, dml, nextval, set_cookie, deeds, WritesFrom, here, through}
use Rattle.ur_code.specs.declared.code.Code.{Code}
use Rattle.ur_effects.specs.declared.act.Write.{Write}
use Rattle.ur_effects.specs.declared.act.Act.{Act}
use Rattle.ur_effects.specs.declared.act.Act.TheVariants as act
use Rattle.ur_effects.specs.Acts.{act_deed, write_deed, body_deeds, deeds_in, IsCall}
use Rattle.ur_effects.specs.Writes.{IsWrite, a_change, a_number, a_cookie, IsGetTarget}
use Rattle.ur_effects.specs.Refused.{GetNeverWrites}
use Rattle.ur_effects.specs.Search.{Found, Search, is_unseen, reached, reached_by, IsLed, IsFound, AreLed, IsSearch, HasTargets, IsHarmless, AreDone, MakesWrite}

-- ---- lists

pub get-append : {X : Type 0} (xs : List X) (y : X) (k : ℕ) (x : X) → slice_get xs k ≡ Some x → slice_get (xs ++ y ∷ []) k ≡ Some x
get-append [] y k x e = absurd (none-some _ e)
get-append (z ∷ xs) y zero x e = e
get-append (z ∷ xs) y (suc k) x e = get-append xs y k x e

pub get-last : {X : Type 0} (xs : List X) (y : X) → slice_get (xs ++ y ∷ []) (length xs) ≡ Some y
get-last [] y = refl
get-last (z ∷ xs) y = get-last xs y

pub get-cases : {X : Type 0} (xs : List X) (y : X) (k : ℕ) (x : X) → slice_get (xs ++ y ∷ []) k ≡ Some x
    → (slice_get xs k ≡ Some x) ⊎ ((k ≡ length xs) × (y ≡ x))
get-cases [] y zero x e = inr (refl, same_Some _ _ e)
get-cases [] y (suc k) x e = absurd (none-some _ e)
get-cases (z ∷ xs) y zero x e = inl e
get-cases {X} (z ∷ xs) y (suc k) x e = go (get-cases xs y k x e)
  where
    go : (slice_get xs k ≡ Some x) ⊎ ((k ≡ length xs) × (y ≡ x)) → (slice_get xs k ≡ Some x) ⊎ ((suc k ≡ suc (length xs)) × (y ≡ x))
    go (inl a) = inl a
    go (inr b) = inr (ap suc b.0, b.1)

pub get-set : {X : Type 0} (xs : List X) (f : ℕ) (x y : X) → slice_get xs f ≡ Some x → slice_get (set xs f y) f ≡ Some y
get-set [] f x y e = absurd (none-some _ e)
get-set (z ∷ xs) zero x y e = refl
get-set (z ∷ xs) (suc f) x y e = get-set xs f x y e

-- what is true stays true
pub true-set : (xs : List Bool) (f g : ℕ) → slice_get xs g ≡ Some true → slice_get (set xs f true) g ≡ Some true
true-set [] f g e = absurd (none-some _ e)
true-set (z ∷ xs) zero zero e = refl
true-set (z ∷ xs) zero (suc g) e = e
true-set (z ∷ xs) (suc f) zero e = e
true-set (z ∷ xs) (suc f) (suc g) e = true-set xs f g e

pub set-true : (xs : List Bool) (f g : ℕ) → slice_get (set xs f true) g ≡ Some true → (f ≡ g) ⊎ (slice_get xs g ≡ Some true)
set-true [] f g e = absurd (none-some _ e)
set-true (z ∷ xs) zero zero e = inl refl
set-true (z ∷ xs) zero (suc g) e = inr e
set-true (z ∷ xs) (suc f) zero e = inr e
set-true (z ∷ xs) (suc f) (suc g) e = go (set-true xs f g e)
  where
    go : (f ≡ g) ⊎ (slice_get xs g ≡ Some true) → (suc f ≡ suc g) ⊎ (slice_get xs g ≡ Some true)
    go (inl a) = inl (ap suc a)
    go (inr b) = inr b

-- one fewer is false
pub count-set : (xs : List Bool) (f : ℕ) → slice_get xs f ≡ Some false → count_by not (set xs f true) + 1 ≡ count_by not xs
count-set xs f e =
    let both = sum_by-set (λ x. cond (not x) 1 0) xs f true true (slice_get_within xs f false e) in
    let was = subst (λ b. count_by not (set xs f true) + cond (not b) 1 0 ≡ count_by not xs + 0) (get_or_from_slice_get xs f false true e) both in
    omega (arith, was)

is_inside : {X : Type 0} (xs : List X) (i : ℕ) → i < length xs → slice_get xs i ≡ None → ⊥
is_inside [] i lt h = omega (arith, lt)
is_inside (y ∷ ys) zero lt h = none-some y (sym h)
is_inside (y ∷ ys) (suc i) lt h = is_inside ys i (omega (arith, lt)) h

pub split_last : (k n : ℕ) → k < n + 1 → (k < n) ⊎ (k ≡ n)
split_last zero zero lt = inr refl
split_last zero (suc n) lt = inl (omega arith)
split_last (suc k) zero lt = absurd (omega (arith, lt))
split_last (suc k) (suc n) lt = up (split_last k n (omega (arith, lt)))
  where
    up : (k < n) ⊎ (k ≡ n) → (suc k < suc n) ⊎ (suc k ≡ suc n)
    up (inl a) = inl (omega (arith, a))
    up (inr b) = inr (ap suc b)

-- ---- one step

-- what is found stays found
pub record Grows (s t : Search) : Type 0 where
  pub size : length t.seen ≡ length s.seen
  pub seen : (f : ℕ) → slice_get s.seen f ≡ Some true → slice_get t.seen f ≡ Some true
  pub found : (k : ℕ) (e : Found) → slice_get s.found k ≡ Some e → slice_get t.found k ≡ Some e

grows_same : (s : Search) → Grows s s
grows_same s = record { size = refl; seen = λ f e. e; found = λ k e h. h }

grows_on : (s t u : Search) → Grows s t → Grows t u → Grows s u
grows_on s t u a b = record { size = b.size ∙ a.size; seen = λ f e. b.seen f (a.seen f e); found = λ k e h. b.found k e (a.found k e h) }

abbrev pub entry : ℕ → Option ℕ → Found
entry f c = record { function = f; caller = c }

abbrev pub added : Search → ℕ → Option ℕ → Search
added s f c = record { seen = set s.seen f true; found = s.found ++ entry f c ∷ [] }

-- a function that may be added
abbrev pub MayReach : Code → List Found → ℕ → Option ℕ → Type 0
MayReach code found f None = IsGetTarget code f
MayReach code found f (Some p) = (e : Found) × (slice_get found p ≡ Some e) × Contains (body_deeds code.functions e.function) (calls f)

-- a step: the search is one still, nothing is lost, and the function is found if it is there
pub record Steps (code : Code) (s t : Search) (f : ℕ) : Type 0 where
  pub search : IsSearch code t
  pub grows : Grows s t
  pub there : f < length s.seen → slice_get t.seen f ≡ Some true

led_more : (code : Code) (found : List Found) (x : Found) (k : ℕ) (e : Found) (c : Option ℕ) → IsLed code found k e c → IsLed code (found ++ x ∷ []) k e c
led_more code found x k e None h = h
led_more code found x k e (Some p) h = (h.0, (h.1.0, get-append found x p h.1.0 h.1.1, h.1.2))

led_last : (code : Code) (found : List Found) (x : Found) (c : Option ℕ) → MayReach code found x.function c → IsLed code (found ++ x ∷ []) (length found) x c
led_last code found x None h = h
led_last code found x (Some p) h = (slice_get_within found p h.0 h.1, (h.0, get-append found x p h.0 h.1, h.2))

are_led : (code : Code) (found : List Found) (f : ℕ) (c : Option ℕ) → AreLed code found → MayReach code found f c → AreLed code (found ++ entry f c ∷ [])
are_led code found f c led may k e h = go (get-cases found (entry f c) k e h)
  where
    go : (slice_get found k ≡ Some e) ⊎ ((k ≡ length found) × (entry f c ≡ e)) → IsLed code (found ++ entry f c ∷ []) k e e.caller
    go (inl old) = led_more code found (entry f c) k e e.caller (led k e old)
    go (inr last) =
        subst (λ (n : ℕ). IsLed code (found ++ entry f c ∷ []) n e e.caller) (sym last.0)
        (subst (λ (y : Found). IsLed code (found ++ entry f c ∷ []) (length found) y y.caller) last.1 (led_last code found (entry f c) c may))

pub new_step : (code : Code) (s : Search) (f : ℕ) (c : Option ℕ) → IsSearch code s → MayReach code s.found f c → slice_get s.seen f ≡ Some false
    → Steps code s (added s f c) f
new_step code s f c is may new = record {
  search = record {
    size = length-set s.seen f true ∙ is.size;
    fits = fits;
    led = are_led code s.found f c is.led may;
    known = λ g e. known g (set-true s.seen f g e);
  };
  grows = record { size = length-set s.seen f true; seen = λ g e. true-set s.seen f g e; found = λ k e h. get-append s.found (entry f c) k e h };
  there = λ lt. get-set s.seen f false true new;
}
  where
    fits : length (s.found ++ entry f c ∷ []) + count_by not (set s.seen f true) ≡ length (set s.seen f true)
    fits =
        let before = is.fits in
        let fewer = count-set s.seen f new in
        let as_long = length-set s.seen f true in
        let longer = length-append s.found (entry f c ∷ []) in
        omega (arith, before, fewer, as_long, longer)

    known : (g : ℕ) → (f ≡ g) ⊎ (slice_get s.seen g ≡ Some true) → IsFound (s.found ++ entry f c ∷ []) g
    known g (inl e) = (length s.found, entry f c, get-last s.found (entry f c), e)
    known g (inr e) = let was = is.known g e in (was.0, was.1, get-append s.found (entry f c) was.0 was.1 was.2, was.3)

pub step : (code : Code) (s : Search) (f : ℕ) (c : Option ℕ) → IsSearch code s → MayReach code s.found f c → Steps code s (reached s f c) f
step code s f c is may = go (slice_get s.seen f) refl
  where
    go : (o : Option Bool) → slice_get s.seen f ≡ o → Steps code s (cond (is_unseen o) (added s f c) s) f
    go None e = record { search = is; grows = grows_same s; there = λ lt. absurd (is_inside s.seen f lt e) }
    go (Some true) e = record { search = is; grows = grows_same s; there = λ lt. e }
    go (Some false) e = new_step code s f c is may e

-- ---- all acts of a body

-- the acts of a function found at a place
abbrev pub AreHere : Code → Search → ℕ → List Act → Type 0
AreHere code s p acts = (f : ℕ) → In (act.Calls f) acts → MayReach code s.found f (Some p)

here_more : (code : Code) (s t : Search) (p : ℕ) (a : Act) (acts : List Act) → Grows s t → AreHere code s p (a ∷ acts) → AreHere code t p acts
here_more code s t p a acts g h f i = let m = h f (inr i) in (m.0, g.found p m.0 m.1, m.2)

-- a walk over acts: a search still, nothing is lost, and each called function is found if it is there
pub record Walks (code : Code) (s t : Search) (acts : List Act) : Type 0 where
  pub search : IsSearch code t
  pub grows : Grows s t
  pub there : (f : ℕ) → In (act.Calls f) acts → f < length t.seen → slice_get t.seen f ≡ Some true

abbrev number_in : Act → ℕ
number_in (act.Calls f) = f
number_in (act.Writes w) = 0

abbrev is_call : Act → Bool
is_call (act.Calls f) = true
is_call (act.Writes w) = false

called : (code : Code) (s t u : Search) (f : ℕ) (acts : List Act) → Steps code s t f → Walks code t u acts → Walks code s u (act.Calls f ∷ acts)
called code s t u f acts one rest = record { search = rest.search; grows = grows_on s t u one.grows rest.grows; there = there }
  where
    there : (g : ℕ) → In (act.Calls g) (act.Calls f ∷ acts) → g < length u.seen → slice_get u.seen g ≡ Some true
    there g (inl e) lt =
        let same : f ≡ g = ap number_in e in
        let a = rest.grows.size in
        let b = one.grows.size in
        let f_in : f < length s.seen = omega (arith, same, lt, a, b) in
        rest.grows.seen g (subst (λ (n : ℕ). slice_get t.seen n ≡ Some true) same (one.there f_in))
    there g (inr i) lt = rest.there g i lt

wrote : (code : Code) (s u : Search) (w : Write) (acts : List Act) → Walks code s u acts → Walks code s u (act.Writes w ∷ acts)
wrote code s u w acts rest = record { search = rest.search; grows = rest.grows; there = there }
  where
    there : (g : ℕ) → In (act.Calls g) (act.Writes w ∷ acts) → g < length u.seen → slice_get u.seen g ≡ Some true
    there g (inl e) lt = absurd (false≢true (ap is_call e))
    there g (inr i) lt = rest.there g i lt

pub walk : (code : Code) (acts : List Act) (s : Search) (p : ℕ) → IsSearch code s → AreHere code s p acts → Walks code s (fold (reached_by p) s acts) acts
walk code [] s p is h = record { search = is; grows = grows_same s; there = λ f i lt. absurd i }
walk code (act.Calls f ∷ acts) s p is h =
    let next : Search = reached s f (Some p) in
    let one = step code s f (Some p) is (h f (inl refl)) in
    called code s next (fold (reached_by p) next acts) f acts one
    (walk code acts next p one.search (here_more code s next p (act.Calls f) acts one.grows h))
walk code (act.Writes w ∷ acts) s p is h =
    wrote code s (fold (reached_by p) s acts) w acts (walk code acts s p is (λ f i. h f (inr i)))

-- ---- the loop

-- acts that are all calls do no harm
harmless : (t : Search) (acts : List Act) → All IsCall acts → ((f : ℕ) → In (act.Calls f) acts → f < length t.seen → slice_get t.seen f ≡ Some true)
    → (d : Deed) → In d (map act_deed acts) → IsHarmless t d
harmless t [] c h d i = absurd i
harmless t (act.Calls f ∷ acts) c h d (inl e) = subst (λ (x : Deed). IsHarmless t x) e (h f (inl refl))
harmless t (act.Calls f ∷ acts) c h d (inr i) = harmless t acts (λ k a lt. c (suc k) a (suc-le-suc lt)) (λ g j. h g (inr j)) d i
harmless t (act.Writes w ∷ acts) c h d i = absurd (c 0 (act.Writes w) (zero-lt-suc (length acts)))

harmless_on : (s t : Search) → Grows s t → (d : Deed) → IsHarmless s d → IsHarmless t d
harmless_on s t g (calls f) h = λ lt. g.seen f (h (subst (λ (n : ℕ). f < n) g.size lt))
harmless_on s t g dml h = h
harmless_on s t g nextval h = h
harmless_on s t g set_cookie h = h

found_there : (xs : List Found) (k : ℕ) → k < length xs → (x : Found) × (slice_get xs k ≡ Some x)
found_there xs k lt = go (slice_get xs k) refl
  where
    go : (o : Option Found) → slice_get xs k ≡ o → (x : Found) × (slice_get xs k ≡ Some x)
    go None e = absurd (is_inside xs k lt e)
    go (Some x) e = (x, e)

-- one function more
pub done_more : (code : Code) (s t : Search) (acts : List Act) (p : ℕ) (e : Found) → slice_get s.found p ≡ Some e → map act_deed acts ≡ body_deeds code.functions e.function
    → All IsCall acts → Walks code s t acts → AreDone code s p → AreDone code t (p + 1)
done_more code s t acts p e is_e deeds_are all_calls w before k x lt is_x d c = go (split_last k p lt)
  where
    go : (k < p) ⊎ (k ≡ p) → IsHarmless t d
    go (inl less) =
        let p_in = slice_get_within s.found p e is_e in
        let was = found_there s.found k (omega (arith, less, p_in)) in
        let same : was.0 ≡ x = same_Some _ _ (sym (w.grows.found k was.0 was.1) ∙ is_x) in
        harmless_on s t w.grows d (before k was.0 less was.1 d (subst (λ (y : Found). Contains (body_deeds code.functions y.function) d) (sym same) c))
    go (inr last) =
        let same : e ≡ x = same_Some _ _ (sym (w.grows.found p e is_e) ∙ subst (λ (n : ℕ). slice_get t.found n ≡ Some x) last is_x) in
        harmless t acts all_calls (λ f i. w.there f i) d
        (in_from_contains (map act_deed acts) d
        (subst (λ (ds : List Deed). Contains ds d) (sym deeds_are) (subst (λ (y : Found). Contains (body_deeds code.functions y.function) d) (sym same) c)))

-- what a body of a function that is found holds, where all that are found are done
body_harm : (code : Code) (s : Search) (n : ℕ) → IsSearch code s → AreDone code s n → length s.found ≤ n
    → (f : ℕ) (function : Function) → slice_get code.functions f ≡ Some function → slice_get s.seen f ≡ Some true
    → (d : Deed) → Contains (deeds function.body) d → IsHarmless s d
body_harm code s n is done all f function e seen d c =
    let k = is.known f seen in
    let k_in = slice_get_within s.found k.0 k.1 k.2 in
    done k.0 k.1 (omega (arith, k_in, all)) k.2 d
    (subst (λ (g : ℕ). Contains (body_deeds code.functions g) d) (sym k.3) (subst (λ (o : Option Function). Contains (deeds_in o) d) (sym e) c))

write_harms : (s : Search) (w : Deed) → IsWrite w → IsHarmless s w → ⊥
write_harms s dml a_change h = h
write_harms s nextval a_number h = h
write_harms s set_cookie a_cookie h = h
write_harms s (calls f) w h = elim w [ ]

begins_within : (functions : List Function) (w : Deed) (f : ℕ) (chain : List ℕ) → WritesFrom functions w f chain → f < length functions
begins_within functions w f chain (here g function is_g c) = slice_get_within functions f function is_g
begins_within functions w f chain (through g h function rest is_g c more) = slice_get_within functions f function is_g

-- then no chain leads from a function that is found to a write
no_write : (code : Code) (s : Search) (n : ℕ) → IsSearch code s → AreDone code s n → length s.found ≤ n → (w : Deed) → IsWrite w
    → (f : ℕ) (chain : List ℕ) → slice_get s.seen f ≡ Some true → WritesFrom code.functions w f chain → ⊥
no_write code s n is done all w wr f chain seen (here g function is_f c) = write_harms s w wr (body_harm code s n is done all f function is_f seen w c)
no_write code s n is done all w wr f chain seen (through g h function rest is_f c more) =
    let h_in : h < length s.seen = subst (λ (m : ℕ). h < m) (sym is.size) (begins_within code.functions w h rest more) in
    no_write code s n is done all w wr h rest (body_harm code s n is done all f function is_f seen (calls h) c h_in) more

-- where all functions that are found are done, and those of the routes with GET among them, none of these routes writes
pub never_writes : (code : Code) (s : Search) (n : ℕ) → IsSearch code s → HasTargets code s → AreDone code s n → length s.found ≤ n → GetNeverWrites code
never_writes code s n is targets done all chain w g =
    let t_in : g.target < length s.seen = subst (λ (m : ℕ). g.target < m) (sym is.size) (begins_within code.functions w g.target chain g.writes) in
    no_write code s n is done all w g.is_write g.target chain (targets g.target g.is_target t_in) g.writes

-- ---- the acts that were read

-- the deeds of the acts are those of the function that is found there
are_here : (code : Code) (s : Search) (p : ℕ) (x : Found) (acts : List Act) → slice_get s.found p ≡ Some x → map act_deed acts ≡ body_deeds code.functions x.function → AreHere code s p acts
are_here code s p x acts is_x same f i =
    (x, is_x, subst (λ (ds : List Deed). Contains ds (calls f)) same (contains_from_in (map act_deed acts) (calls f) (in_map act_deed acts (act.Calls f) i)))

pub makes_write : (functions : List Function) (found : List Found) (p : ℕ) (x : Found) (acts : List Act) (w : Write) → slice_get found p ≡ Some x → map act_deed acts ≡ body_deeds functions x.function
    → Contains acts (act.Writes w) → MakesWrite functions (slice_get found p) w
makes_write functions found p x acts w is_x same c =
    subst (λ (o : Option Found). MakesWrite functions o w) (sym is_x)
    (subst (λ (ds : List Deed). Contains ds (write_deed w)) same
    (contains_from_in (map act_deed acts) (write_deed w) (in_map act_deed acts (act.Writes w) (in_from_contains acts (act.Writes w) c))))

-- what a turn of the loop keeps
pub record Turn (code : Code) (t : Search) (n : ℕ) : Type 0 where
  pub search : IsSearch code t
  pub targets : HasTargets code t
  pub done : AreDone code t n

pub turn : (code : Code) (s t : Search) (p : ℕ) (x : Found) (acts : List Act) → slice_get s.found p ≡ Some x → map act_deed acts ≡ body_deeds code.functions x.function → All IsCall acts
    → t ≡ fold (reached_by p) s acts → IsSearch code s → HasTargets code s → AreDone code s p → Turn code t (p + 1)
turn code s t p x acts is_x same all_calls next is targets done =
    subst (λ (u : Search). Turn code u (p + 1)) (sym next) (made (walk code acts s p is (are_here code s p x acts is_x same)))
  where
    made : {u : Search} → Walks code s u acts → Turn code u (p + 1)
    made {u} w = record {
      search = w.search;
      targets = λ f g lt. w.grows.seen f (targets f g (subst (λ (n : ℕ). f < n) w.grows.size lt));
      done = done_more code s u acts p x is_x same all_calls w done;
    }
