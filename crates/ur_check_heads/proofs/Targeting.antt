-- The functions that have a route are those with a method, by rising number.
use Rattle.std.proofs.Common.{inl, inr, ◌≡◌, ◌∙◌, refl, sym, ap, ap₂, subst, ℕ, zero, suc, ◌+◌, ◌<◌, ◌≤◌, ◌⊎◌, Bool, true, false, true≢false, ◌||◌, if◌then◌else◌, List, [], ◌∷◌, ◌++◌, map, length, drop, get_or, Option, Some, None, arith, append-nil, append_assoc}
use Rattle.std.specs.Prelude.{◌↔◌, IsTrue, slice_get, option_map, Contains, All, AllPairs}
use Rattle.std.specs.List.{AllZip}
use Rattle.std.proofs.lemmas.List.{drop_more}
use Rattle.std.proofs.lemmas.List.Kept.{AllPairs-cons}
use Rattle.std.proofs.lemmas.Option.{slice_get-map}
use Rattle.ur_disjoint.proofs.Members.{In, in-contains, contains-in}
use Rattle.ur_typed_rules.proofs.Options.{some_of, some_none}
use Rattle.ur_tags.specs.declared.routes.Route.{Route}
use Rattle.ur_tree.specs.Occurrences.{Occurrence, action}
use Rattle.ur_check_scopes.specs.declared.world.FunctionHead.{FunctionHead as HeldFunction}
use Rattle.ur_check_scopes.proofs.Loops.{drop-here, drop-none, left-end}
use Rattle.ur_check_heads.specs.Views.{function_in}
use Rattle.ur_typed.specs.Declaring.{FunctionHead}
use Rattle.ur_typed.specs.Routing.{IsLinked, IsRouteOf, IsRouteAt, AreRoutes}
use Rattle.ur_check_heads.specs.declared.aims.Aim.{Aim}
use Rattle.ur_check_heads.specs.declared.routes.Routes.{Routes}
use Rattle.ur_check_heads.specs.Aims.{AreAims, if_routed, targets_of, routed_of, methods_of}
use Rattle.ur_check_heads.specs.Routes.{AreAt}
use Rattle.ur_check_heads.specs.Forms.{HasName, AreRising, AreArguments}
use Rattle.ur_check_heads.specs.declared.arguments.Arguments.{Arguments}
use Rattle.ur_tree.specs.declared.exp.Param.{Param as TreeParam}
use Rattle.ur_tree.specs.Typing.{types_of}
use Rattle.ur_tree.specs.Routes.{param_type, form_argument}
use Rattle.ur_typed_rules.specs.Tests.{is_page}
use Rattle.ur_typed_rules.proofs.Decided.{pages_decided}
use Rattle.ur_check_scopes.specs.Views.{head_in}

-- ---- adding one

pub none-added : {A : Type 0} (a : Aim) (x : A) (xs : List A) → (a.get || a.post) ≡ false → (rest : List A) → xs ++ rest ≡ xs ++ if_routed a x rest
none-added a x xs h rest = ap (λ b. xs ++ (if b then x ∷ rest else rest)) (sym h)

pub one-added : {A : Type 0} (a : Aim) (x : A) (xs ys : List A) → (a.get || a.post) ≡ true → ys ≡ xs ++ x ∷ [] → (rest : List A) → ys ++ rest ≡ xs ++ if_routed a x rest
one-added a x xs ys h e rest = ap (λ l. l ++ rest) e ∙ append_assoc xs (x ∷ []) rest ∙ ap (λ b. xs ++ (if b then x ∷ rest else rest)) (sym h)

pub zip-push : {A B : Type 0} (R : A → B → Type 0) (xs : List A) (ys : List B) (x : A) (y : B) → AllZip R xs ys → R x y → AllZip R (xs ++ x ∷ []) (ys ++ y ∷ [])
zip-push R [] [] x y h r = (r, tt)
zip-push R [] (b ∷ ys) x y h r = absurd h
zip-push R (a ∷ xs) [] x y h r = absurd h
zip-push R (a ∷ xs) (b ∷ ys) x y h r = (h.0, zip-push R xs ys x y h.1 r)

pub map-push : {A B : Type 0} (f : A → B) (xs : List A) (x : A) → map f (xs ++ x ∷ []) ≡ map f xs ++ f x ∷ []
map-push f [] x = refl
map-push f (y ∷ ys) x = ap (λ l. f y ∷ l) (map-push f ys x)

-- ---- so far

pub record Routed (modules names : List (List ℕ)) (functions : List HeldFunction) (aims : List Aim) (r : Routes) (i : ℕ) : Type 0 where
  pub targets : r.targets ++ targets_of i (drop i aims) ≡ targets_of 0 aims
  pub methods : map methods_of r.handlers.routes ++ routed_of (drop i aims) ≡ routed_of aims
  pub fit : AreAt modules names functions r

pub routed-start : (modules names : List (List ℕ)) (functions : List HeldFunction) (aims : List Aim) (r : Routes) → r ≡ record { handlers = record { routes = [] }; targets = [] } → Routed modules names functions aims r 0
routed-start modules names functions aims r e = subst (λ z. Routed modules names functions aims z 0) (sym e) (record { targets = ap (targets_of 0) (drop-none aims); methods = ap routed_of (drop-none aims); fit = tt })

pub routed-past : (modules names : List (List ℕ)) (functions : List HeldFunction) (aims : List Aim) (r s : Routes) (i : ℕ) (d : Aim) → i < length aims →
    ((rest : List ℕ) → s.targets ++ rest ≡ r.targets ++ if_routed (get_or aims i d) i rest) → ((rest : List Aim) → map methods_of s.handlers.routes ++ rest ≡ map methods_of r.handlers.routes ++ if_routed (get_or aims i d) (get_or aims i d) rest) →
    (AreAt modules names functions r → AreAt modules names functions s) → Routed modules names functions aims r i → Routed modules names functions aims s (i + 1)
routed-past modules names functions aims r s i d h targets methods fit g = record {
  targets = targets (targets_of (i + 1) (drop (i + 1) aims)) ∙ ap (λ l. r.targets ++ targets_of i l) (sym (drop_more aims i d h)) ∙ g.targets;
  methods = methods (routed_of (drop (i + 1) aims)) ∙ ap (λ l. map methods_of r.handlers.routes ++ routed_of l) (sym (drop_more aims i d h)) ∙ g.methods;
  fit = fit g.fit;
}

-- a route is pushed
pub added-targets : (r s : Routes) (route : Route) (target at : ℕ) (aim : Aim) (b : Bool) → s ≡ record { handlers = record { routes = r.handlers.routes ++ route ∷ [] }; targets = r.targets ++ target ∷ [] } → target ≡ at → b ≡ (aim.get || aim.post) → b ≡ true →
    (rest : List ℕ) → s.targets ++ rest ≡ r.targets ++ if_routed aim at rest
added-targets r s route target at aim b e k eb tb = one-added aim at r.targets s.targets (sym eb ∙ tb) (ap (λ (z : Routes). z.targets) e ∙ ap (λ n. r.targets ++ n ∷ []) k)

pub added-methods : (r s : Routes) (route : Route) (target : ℕ) (aim : Aim) (b : Bool) → s ≡ record { handlers = record { routes = r.handlers.routes ++ route ∷ [] }; targets = r.targets ++ target ∷ [] } → route.get ≡ aim.get → route.post ≡ aim.post → b ≡ (aim.get || aim.post) → b ≡ true →
    (rest : List Aim) → map methods_of s.handlers.routes ++ rest ≡ map methods_of r.handlers.routes ++ if_routed aim aim rest
added-methods r s route target aim b e g p eb tb =
    one-added aim aim (map methods_of r.handlers.routes) (map methods_of s.handlers.routes) (sym eb ∙ tb)
    (ap (λ (z : Routes). map methods_of z.handlers.routes) e ∙ map-push methods_of r.handlers.routes route ∙ ap (λ m. map methods_of r.handlers.routes ++ m ∷ []) (λ i. record { get = g i; post = p i }))

pub added-fit : (modules names : List (List ℕ)) (functions : List HeldFunction) (r s : Routes) (route : Route) (target at : ℕ) (f : HeldFunction) → s ≡ record { handlers = record { routes = r.handlers.routes ++ route ∷ [] }; targets = r.targets ++ target ∷ [] } → target ≡ at → slice_get functions at ≡ Some f →
    IsRouteOf modules names (function_in f) route → AreAt modules names functions r → AreAt modules names functions s
added-fit modules names functions r s route target at f e k there is h =
    subst (AreAt modules names functions) (sym e)
    (zip-push (IsRouteAt modules names (map function_in functions)) r.handlers.routes r.targets route target h (function_in f, ap (slice_get (map function_in functions)) k ∙ slice_get-map function_in functions at ∙ ap (option_map function_in) there, is))

-- what one route says
pub route-is : (modules names : List (List ℕ)) (f : HeldFunction) (r : Route) (b : Bool) (a : Arguments) (ps : List TreeParam) → b ≡ is_page (head_in f.head) → b ≡ true → slice_get modules f.«module» ≡ Some r.module_name → r.function_name ≡ f.name → ps ≡ f.head.params → AreArguments names (types_of ps) a →
    r.params ≡ a.params → r.form ≡ a.form → IsRouteOf modules names (function_in f) r
route-is modules names f r b a ps eb tb home name ep args params form = record {
  page = (pages_decided (head_in f.head)).0 (sym eb ∙ tb);
  home = home;
  name = sym name;
  types = ap types_of (sym ep) ∙ args.types ∙ ap₂ (λ l k. map param_type l ++ form_argument names k) (sym params) (sym form);
  fields = subst (All (HasName names)) (sym form) args.named;
  rising = subst AreRising (sym form) args.rising;
}

pub routed-targets : (modules names : List (List ℕ)) (functions : List HeldFunction) (aims : List Aim) (r : Routes) (i : ℕ) → length aims ≤ i → Routed modules names functions aims r i → r.targets ≡ targets_of 0 aims
routed-targets modules names functions aims r i h g = sym (append-nil r.targets) ∙ ap (λ l. r.targets ++ l) (sym (left-end (targets_of i) aims i h)) ∙ g.targets

pub routed-methods : (modules names : List (List ℕ)) (functions : List HeldFunction) (aims : List Aim) (r : Routes) (i : ℕ) → length aims ≤ i → Routed modules names functions aims r i → map methods_of r.handlers.routes ≡ routed_of aims
routed-methods modules names functions aims r i h g = sym (append-nil (map methods_of r.handlers.routes)) ∙ ap (λ l. map methods_of r.handlers.routes ++ l) (sym (left-end routed_of aims i h)) ∙ g.methods

-- ---- what has a method

all-cons : {A : Type 0} (P : A → Type 0) (xs : List A) → ((x : A) → In x xs → P x) → All P xs
all-cons P [] h = λ k d i. absurd (omega (arith, i))
all-cons {A} P (x ∷ xs) h = λ k d i. h (get_or (x ∷ xs) k d) (at (x ∷ xs) k d i)
  where
    at : (ys : List A) (k : ℕ) (d : A) → k < length ys → In (get_or ys k d) ys
    at [] k d i = absurd (omega (arith, i))
    at (y ∷ ys) zero d i = inl refl
    at (y ∷ ys) (suc k) d i = inr (at ys k d (omega (arith, i)))

-- a function with a route stands among those behind a number, and has a method there
record Behind (n : ℕ) (aims : List Aim) (f : ℕ) : Type 0 where
  place : ℕ
  aim : Aim
  is : f ≡ n + place
  there : slice_get aims place ≡ Some aim
  routed : (aim.get || aim.post) ≡ true

next : (n k : ℕ) → n + 1 + k ≡ n + suc k
next n k = omega arith

behind-next : (n : ℕ) (a : Aim) (aims : List Aim) (f : ℕ) → Behind (n + 1) aims f → Behind n (a ∷ aims) f
behind-next n a aims f b = record { place = suc b.place; aim = b.aim; is = b.is ∙ next n b.place; there = b.there; routed = b.routed }

by-bool : {A : Type 0} (P : List A → Type 0) (b : Bool) (x : A) (rest : List A) → (b ≡ true → P (x ∷ rest)) → (b ≡ false → P rest) → P (if b then x ∷ rest else rest)
by-bool P true x rest h k = h refl
by-bool P false x rest h k = k refl

by-routed : {A : Type 0} (P : List A → Type 0) (a : Aim) (x : A) (rest : List A) → ((a.get || a.post) ≡ true → P (x ∷ rest)) → ((a.get || a.post) ≡ false → P rest) → P (if_routed a x rest)
by-routed P a x rest h k = by-bool P (a.get || a.post) x rest h k

none-more : (n : ℕ) → n ≡ n + 0
none-more n = omega arith

plus-none : (n : ℕ) → 0 + n ≡ n
plus-none n = omega arith

target-behind : (n : ℕ) (aims : List Aim) (f : ℕ) → In f (targets_of n aims) → Behind n aims f
target-behind n [] f i = absurd i
target-behind n (a ∷ aims) f i = by-routed (λ l. In f l → Behind n (a ∷ aims) f) a n (targets_of (n + 1) aims)
    (λ e j. elim j [ inl s ↦ record { place = 0; aim = a; is = sym s ∙ none-more n; there = refl; routed = e } | inr k ↦ behind-next n a aims f (target-behind (n + 1) aims f k) ])
    (λ e j. behind-next n a aims f (target-behind (n + 1) aims f j)) i

target-there : (n : ℕ) (aims : List Aim) (k : ℕ) (x : Aim) → slice_get aims k ≡ Some x → (x.get || x.post) ≡ true → In (n + k) (targets_of n aims)
target-there n [] k x h r = absurd (some_none (sym h))
target-there n (a ∷ aims) zero x h r = by-routed (λ l. In (n + 0) l) a n (targets_of (n + 1) aims) (λ e. inl (none-more n)) (λ e. absurd (true≢false (sym r ∙ ap (λ (z : Aim). z.get || z.post) (sym (some_of h)) ∙ e)))
target-there n (a ∷ aims) (suc k) x h r =
    let i : In (n + suc k) (targets_of (n + 1) aims) = subst (λ m. In m (targets_of (n + 1) aims)) (next n k) (target-there (n + 1) aims k x h r) in
    by-routed (λ l. In (n + suc k) l) a n (targets_of (n + 1) aims) (λ e. inr i) (λ e. i)

above : (n k g : ℕ) → g ≡ n + 1 + k → n < g
above n k g e = omega (arith, e)

targets-rise : (n : ℕ) (aims : List Aim) → AllPairs (λ f g. f < g) (targets_of n aims)
targets-rise n [] = λ i j d h k. absurd (omega (arith, k))
targets-rise n (a ∷ aims) = by-routed (AllPairs (λ f g. f < g)) a n (targets_of (n + 1) aims)
    (λ e. AllPairs-cons (λ f g. f < g) n (targets_of (n + 1) aims) (all-cons (λ g. n < g) (targets_of (n + 1) aims) (λ g i. let b = target-behind (n + 1) aims g i in above n b.place g b.is)) (targets-rise (n + 1) aims)) (λ e. targets-rise (n + 1) aims)

-- a route has the methods of its function
abbrev Answers : List Aim → Route → ℕ → Type 0
Answers aims r f = (x : Aim) × (slice_get aims f ≡ Some x) × (methods_of r ≡ x)

-- what stands from a place on stands in all
abbrev StandsAt : List Aim → ℕ → List Aim → Type 0
StandsAt all n aims = (k : ℕ) (x : Aim) → slice_get aims k ≡ Some x → slice_get all (n + k) ≡ Some x

stands-next : (all : List Aim) (n : ℕ) (a : Aim) (aims : List Aim) → StandsAt all n (a ∷ aims) → StandsAt all (n + 1) aims
stands-next all n a aims h = λ k x e. ap (slice_get all) (next n k) ∙ h (suc k) x e

cons-first : {A : Type 0} (x y : A) (xs ys : List A) → x ∷ xs ≡ y ∷ ys → x ≡ y
cons-first x y xs ys e = cc

cons-rest : {A : Type 0} (x y : A) (xs ys : List A) → x ∷ xs ≡ y ∷ ys → xs ≡ ys
cons-rest x y xs ys e = cc

answer-step : (all : List Aim) (n : ℕ) (a : Aim) (aims : List Aim) → slice_get all n ≡ Some a → ((rs : List Route) → map methods_of rs ≡ routed_of aims → AllZip (Answers all) rs (targets_of (n + 1) aims)) → (b : Bool) (rs : List Route) →
    map methods_of rs ≡ (if b then a ∷ routed_of aims else routed_of aims) → AllZip (Answers all) rs (if b then n ∷ targets_of (n + 1) aims else targets_of (n + 1) aims)
answer-step all n a aims here others true [] e = cc
answer-step all n a aims here others true (r ∷ rs) e = ((a, here, cons-first (methods_of r) a (map methods_of rs) (routed_of aims) e), others rs (cons-rest (methods_of r) a (map methods_of rs) (routed_of aims) e))
answer-step all n a aims here others false rs e = others rs e

routes-answer : (all : List Aim) (n : ℕ) (aims : List Aim) → StandsAt all n aims → (rs : List Route) → map methods_of rs ≡ routed_of aims → AllZip (Answers all) rs (targets_of n aims)
routes-answer all n [] h [] e = tt
routes-answer all n [] h (r ∷ rs) e = cc
routes-answer all n (a ∷ aims) h rs e =
    answer-step all n a aims (ap (slice_get all) (none-more n) ∙ h 0 a refl) (λ others k. routes-answer all (n + 1) aims (stands-next all n a aims h) others k) (a.get || a.post) rs e

zip-as : {A B : Type 0} (R S : A → B → Type 0) → ((a : A) (b : B) → R a b → S a b) → (xs : List A) (ys : List B) → AllZip R xs ys → AllZip S xs ys
zip-as R S f [] [] h = tt
zip-as R S f [] (y ∷ ys) h = absurd h
zip-as R S f (x ∷ xs) [] h = absurd h
zip-as R S f (x ∷ xs) (y ∷ ys) h = (f x y h.0, zip-as R S f xs ys h.1)

either-true : (a b : Bool) → (a || b) ≡ true → (a ≡ true) ⊎ (b ≡ true)
either-true true b h = inl refl
either-true false b h = inr h

left-true : (a b : Bool) → a ≡ true → (a || b) ≡ true
left-true true b h = refl
left-true false b h = absurd (true≢false (sym h))

right-true : (a b : Bool) → b ≡ true → (a || b) ≡ true
right-true true b h = refl
right-true false b h = h

-- ---- the whole

pub routes-are : (modules names : List (List ℕ)) (functions : List HeldFunction) (entries : List ℕ) (all : List Occurrence) (aims aims' : List Aim) (r : Routes) → AreAims entries all aims → aims' ≡ aims → r.targets ≡ targets_of 0 aims' → map methods_of r.handlers.routes ≡ routed_of aims' →
    AreAt modules names functions r → AreRoutes modules names (map function_in functions) entries all r.handlers.routes r.targets
routes-are modules names functions entries all aims aims' r a ea et em fit =
    let targets : r.targets ≡ targets_of 0 aims = et ∙ ap (targets_of 0) ea in
    let answer : AllZip (Answers aims) r.handlers.routes r.targets = subst (AllZip (Answers aims) r.handlers.routes) (sym targets) (routes-answer aims 0 aims (λ k x e. ap (slice_get aims) (plus-none k) ∙ e) r.handlers.routes (em ∙ ap routed_of ea)) in
    record {
      rising = subst (AllPairs (λ f g. f < g)) (sym targets) (targets-rise 0 aims);
      get = zip-as (Answers aims) (λ x f. IsTrue x.get ↔ IsLinked entries all f) (λ x f h. ((λ g. (a.get f h.0 h.1).0 (sym (ap (λ (z : Aim). z.get) h.2) ∙ g)), (λ l. ap (λ (z : Aim). z.get) h.2 ∙ (a.get f h.0 h.1).1 l))) r.handlers.routes r.targets answer;
      post = zip-as (Answers aims) (λ x f. IsTrue x.post ↔ Contains all (action f)) (λ x f h. ((λ g. (a.post f h.0 h.1).0 (sym (ap (λ (z : Aim). z.post) h.2) ∙ g)), (λ l. ap (λ (z : Aim). z.post) h.2 ∙ (a.post f h.0 h.1).1 l))) r.handlers.routes r.targets answer;
      gets = λ f l. let x = a.linked f l in subst (λ ts. Contains ts f) (sym targets) (contains-in f (targets_of 0 aims) (subst (λ m. In m (targets_of 0 aims)) (plus-none f) (target-there 0 aims f x.0 x.1 (left-true x.0.get x.0.post ((a.get f x.0 x.1).1 l)))));
      posts = λ f l. let x = a.acted f l in subst (λ ts. Contains ts f) (sym targets) (contains-in f (targets_of 0 aims) (subst (λ m. In m (targets_of 0 aims)) (plus-none f) (target-there 0 aims f x.0 x.1 (right-true x.0.get x.0.post ((a.post f x.0 x.1).1 l)))));
      used = λ f c.
          let b : Behind 0 aims f = target-behind 0 aims f (in-contains f (targets_of 0 aims) (subst (λ ts. Contains ts f) targets c)) in
          let at : slice_get aims f ≡ Some b.aim = ap (slice_get aims) (b.is ∙ plus-none b.place) ∙ b.there in
          elim (either-true b.aim.get b.aim.post b.routed) [ inl g ↦ inl ((a.get f b.aim at).0 g) | inr g ↦ inr ((a.post f b.aim at).0 g) ];
      fit = fit;
    }
