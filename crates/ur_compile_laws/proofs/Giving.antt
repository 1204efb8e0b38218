-- No function of a module has the name of another one of it.
use Rattle.std.proofs.Common.{inl, inr, ◌⊎◌, ◌≡◌, ◌∙◌, refl, sym, ap, subst, Bool, true, false, ◌||◌, Option, Some, None, List, [], ◌∷◌, ◌++◌, ℕ, map}
use Rattle.std.specs.Prelude.{drop, flat_map, if◌then◌else◌}
use Rattle.std.specs.List.{list_any}
use Rattle.std.proofs.lemmas.List.Folds.{list_any-append}
use Rattle.ur_base.specs.declared.refusal.Span.{Span}
use Rattle.ur_syntax.specs.declared.decl.FunDef.{FunDef}
use Rattle.ur_syntax.specs.declared.decl.Decl.{Decl}
use Rattle.ur_syntax.specs.declared.decl.DeclForm.{DeclForm}
use Rattle.ur_syntax.specs.declared.decl.DeclForm.TheVariants as decl
use Rattle.ur_syntax.specs.declared.decl.Module.{Module}
use Rattle.ur_syntax.specs.declared.decl.Signature.{Signature}
use Rattle.ur_disjoint.proofs.Members.{In}
use Rattle.ur_names.specs.declared.event.Sort.TheVariants as sort
use Rattle.ur_names.specs.declared.event.Event.{Event}
use Rattle.ur_names.specs.declared.event.Event.TheVariants as event
use Rattle.ur_names.specs.Cons.{in_written}
use Rattle.ur_names.specs.Exps.{in_written_exp}
use Rattle.ur_names.specs.Decls.{in_variant, named, in_function, in_form, in_decl, in_module, in_modules, in_signature}
use Rattle.ur_names.specs.declared.keys.Key.{Key}
use Rattle.ur_names.specs.declared.scope.Scope.{Scope}
use Rattle.ur_names.specs.Faults.{Fault, repeated, key, is_local, after, first, fault_at, fault_in, fault_of, start, is_given, given_before, last_frame}
use Rattle.ur_compile_laws.proofs.Places.{Distinct, distinct_both, in_either}
use Rattle.ur_compile_laws.proofs.Words.{same_bytes}
use Rattle.ur_compile_laws.proofs.Spelled.{functions_of, functions_in}
use Rattle.ur_compile_laws.proofs.Even.{IsEven, Stays, behind, behind_both, even_none, even_both, even_one, even_scope}
use Rattle.ur_compile_laws.proofs.Evens.{even_written, even_typed, even_exp_form, even_variants, even_named, inside, even_inside}

-- ---- no fault

first_none : (o p : Option Fault) → first o p ≡ None → (o ≡ None) × (p ≡ None)
first_none None p h = (refl, h)
first_none (Some f) p h = absurd (cc)

pub no_fault_both : (s : Scope) (es fs : List Event) → fault_in s (es ++ fs) ≡ None → (fault_in s es ≡ None) × (fault_in (behind s es) fs ≡ None)
no_fault_both s [] fs h = (refl, h)
no_fault_both s (e ∷ es) fs h =
    let both = first_none (fault_at s e) (fault_in (after s e) (es ++ fs)) h in
    let rest = no_fault_both (after s e) es fs both.1 in
    (ap (λ o. first o (fault_in (after s e) es)) both.0 ∙ rest.0, rest.1)

-- ---- what was given

-- a value or function of this name was given
abbrev has_given : List Key → List ℕ → Bool
has_given ks x = list_any (is_local sort.Value x) ks

or_true : (a b : Bool) → a ≡ true → (a || b) ≡ true
or_true true b h = refl
or_true false b h = absurd (cc)

given_more : (ks more : List Key) (x : List ℕ) → has_given ks x ≡ true → has_given (ks ++ more) x ≡ true
given_more ks more x h = list_any-append (is_local sort.Value x) ks more ∙ or_true (has_given ks x) (has_given more x) h

given_now : (ks : List Key) (x : List ℕ) → has_given (ks ++ key sort.Value None x ∷ []) x ≡ true
given_now [] x = ap (λ b. b || false) (same_bytes x)
given_now (k ∷ ks) x = either (is_local sort.Value x k) (given_now ks x) where
  either : (a : Bool) → has_given (ks ++ key sort.Value None x ∷ []) x ≡ true → (a || has_given (ks ++ key sort.Value None x ∷ []) x) ≡ true
  either true h = refl
  either false h = h

-- From one place of a module to a later one these functions are given, each for the first time.
record Gives (s : Scope) (xs : List (List ℕ)) (t : Scope) : Type 0 where
  frames : t.frames ≡ []
  kept : (x : List ℕ) → has_given s.given x ≡ true → has_given t.given x ≡ true
  fresh : (x : List ℕ) → In x xs → has_given s.given x ≡ true → ⊥
  given : (x : List ℕ) → In x xs → has_given t.given x ≡ true
  apart : Distinct xs

gives_none : (s t : Scope) → s.frames ≡ [] → Stays s t → Gives s [] t
gives_none s t e h = record {
  frames = h.frames ∙ e;
  kept = λ x g. subst (λ z. has_given z x ≡ true) (sym h.given) (given_more s.given h.more x g);
  fresh = λ x i g. i;
  given = λ x i. absurd i;
  apart = tt;
}

gives_both : (s t u : Scope) (xs ys : List (List ℕ)) → Gives s xs t → Gives t ys u → Gives s (xs ++ ys) u
gives_both s t u xs ys h g = record {
  frames = g.frames;
  kept = λ x k. g.kept x (h.kept x k);
  fresh = λ x i k. not_before x k (in_either x xs ys i);
  given = λ x i. behind_all x (in_either x xs ys i);
  apart = distinct_both xs ys h.apart g.apart (λ x i j. g.fresh x j (h.given x i));
} where
  not_before : (x : List ℕ) → has_given s.given x ≡ true → In x xs ⊎ In x ys → ⊥
  not_before x k (inl i) = h.fresh x i k
  not_before x k (inr i) = g.fresh x i (h.kept x k)

  behind_all : (x : List ℕ) → In x xs ⊎ In x ys → has_given u.given x ≡ true
  behind_all x (inl i) = g.kept x (h.given x i)
  behind_all x (inr i) = g.given x i

-- ---- functions

not_repeated : (b : Bool) (f : Fault) → (if b then Some f else None) ≡ None → b ≡ true → ⊥
not_repeated true f h g = absurd (cc)
not_repeated false f h g = absurd (cc)

-- where no scope is open, all that was given in the module counts
given_at : (s : Scope) (x : List ℕ) → s.frames ≡ [] → is_given s sort.Value x ≡ has_given s.given x
given_at s x e = ap (λ fs. list_any (is_local sort.Value x) (drop (given_before (last_frame fs)) s.given)) e

-- the scope behind the name of a function
abbrev with_name : Scope → FunDef → Scope
with_name s f = after s (event.New sort.Value f.span f.name)

abbrev rest_of : FunDef → List Event
rest_of f = (event.Open ∷ []) ++ inside f ++ event.Close ∷ []

function_stays : (s : Scope) (f : FunDef) → Stays (with_name s f) (behind s (in_function f))
function_stays s f = (even_scope (inside f) (even_inside f)).stays (with_name s f)

function_fresh : (s : Scope) (f : FunDef) → s.frames ≡ [] → fault_in s (in_function f) ≡ None → (x : List ℕ) → In x (f.name ∷ []) → has_given s.given x ≡ true → ⊥
function_fresh s f e h x (inr i) g = i
function_fresh s f e h x (inl q) g =
    let new : fault_at s (event.New sort.Value f.span f.name) ≡ None = (first_none (fault_at s (event.New sort.Value f.span f.name)) (fault_in (with_name s f) (rest_of f)) h).0 in
    not_repeated (is_given s sort.Value f.name) (repeated f.span f.name) new (given_at s f.name e ∙ subst (λ z. has_given s.given z ≡ true) (sym q) g)

function_later : (s : Scope) (f : FunDef) (x : List ℕ) → has_given (with_name s f).given x ≡ true → has_given (behind s (in_function f)).given x ≡ true
function_later s f x g = let k : Stays (with_name s f) (behind s (in_function f)) = function_stays s f in subst (λ z. has_given z x ≡ true) (sym k.given) (given_more (with_name s f).given k.more x g)

function_given : (s : Scope) (f : FunDef) (x : List ℕ) → In x (f.name ∷ []) → has_given (behind s (in_function f)).given x ≡ true
function_given s f x (inl q) = subst (λ z. has_given (behind s (in_function f)).given z ≡ true) q (function_later s f f.name (given_now s.given f.name))
function_given s f x (inr i) = absurd i

function_gives : (s : Scope) (f : FunDef) → s.frames ≡ [] → fault_in s (in_function f) ≡ None → Gives s (f.name ∷ []) (behind s (in_function f))
function_gives s f e h = record {
  frames = (function_stays s f).frames ∙ e;
  kept = λ x g. function_later s f x (given_more s.given (key sort.Value None f.name ∷ []) x g);
  fresh = function_fresh s f e h;
  given = function_given s f;
  apart = (λ i. i, tt);
}

abbrev pub names_of : List FunDef → List (List ℕ)
names_of = map (λ f. f.name)

functions_give : (s : Scope) (fs : List FunDef) → s.frames ≡ [] → fault_in s (flat_map in_function fs) ≡ None → Gives s (names_of fs) (behind s (flat_map in_function fs))
functions_give s [] e h = gives_none s s e (even_none.stays s)
functions_give s (f ∷ fs) e h =
    let both = no_fault_both s (in_function f) (flat_map in_function fs) h in
    let t : Scope = behind s (in_function f) in
    let g : Gives s (f.name ∷ []) t = function_gives s f e both.0 in
    subst (Gives s (names_of (f ∷ fs))) (sym (behind_both s (in_function f) (flat_map in_function fs)))
    (gives_both s t (behind t (flat_map in_function fs)) (f.name ∷ []) (names_of fs) g (functions_give t fs g.frames both.1))

-- ---- declarations

even_gives : (s : Scope) (es : List Event) → s.frames ≡ [] → IsEven es → Gives s [] (behind s es)
even_gives s es e h = gives_none s (behind s es) e (h.stays s)

form_gives : (s : Scope) (p : Span) (x : DeclForm) → s.frames ≡ [] → fault_in s (in_form p x) ≡ None → Gives s (names_of (functions_of x)) (behind s (in_form p x))
form_gives s p (decl.Con x k c) e h = even_gives s (in_form p (decl.Con x k c)) e (even_typed sort.Con p x c)
form_gives s p (decl.Type x c) e h = even_gives s (in_form p (decl.Type x c)) e (even_typed sort.Con p x c)
form_gives s p (decl.Datatype x vs) e h =
    even_gives s (in_form p (decl.Datatype x vs)) e
    (even_both ((event.New sort.Con p x ∷ []) ++ event.Declare sort.Con x ∷ []) (flat_map in_variant vs)
    (even_both (event.New sort.Con p x ∷ []) (event.Declare sort.Con x ∷ []) (even_one (event.New sort.Con p x) tt) (even_one (event.Declare sort.Con x) tt)) (even_variants vs))
form_gives s p (decl.Table x c primary cs) e h = even_gives s (in_form p (decl.Table x c primary cs)) e (even_typed sort.Table p x c)
form_gives s p (decl.Sequence x) e h =
    even_gives s (in_form p (decl.Sequence x)) e
    (even_both (event.New sort.Sequence p x ∷ []) (event.Declare sort.Sequence x ∷ []) (even_one (event.New sort.Sequence p x) tt) (even_one (event.Declare sort.Sequence x) tt))
form_gives s p (decl.Cookie x c) e h = even_gives s (in_form p (decl.Cookie x c)) e (even_typed sort.Cookie p x c)
form_gives s p (decl.Val x c a) e h =
    even_gives s (in_form p (decl.Val x c a)) e
    (even_both ((event.New sort.Value p x ∷ []) ++ in_written c ++ in_written_exp a) (event.Declare sort.Value x ∷ [])
    (even_both ((event.New sort.Value p x ∷ []) ++ in_written c) (in_written_exp a) (even_both (event.New sort.Value p x ∷ []) (in_written c) (even_one (event.New sort.Value p x) tt) (even_written c)) (even_exp_form a.span a.form))
    (even_one (event.Declare sort.Value x) tt))
form_gives s p (decl.Fun fs) e h =
    let both = no_fault_both s (flat_map named fs) (flat_map in_function fs) h in
    let t : Scope = behind s (flat_map named fs) in
    let g : Gives s [] t = even_gives s (flat_map named fs) e (even_named fs) in
    subst (Gives s (names_of fs)) (sym (behind_both s (flat_map named fs) (flat_map in_function fs)))
    (gives_both s t (behind t (flat_map in_function fs)) [] (names_of fs) g (functions_give t fs g.frames both.1))

names_both : (fs gs : List FunDef) → names_of (fs ++ gs) ≡ names_of fs ++ names_of gs
names_both [] gs = refl
names_both (f ∷ fs) gs = ap (λ z. f.name ∷ z) (names_both fs gs)

decls_give : (s : Scope) (ds : List Decl) → s.frames ≡ [] → fault_in s (flat_map in_decl ds) ≡ None → Gives s (names_of (functions_in ds)) (behind s (flat_map in_decl ds))
decls_give s [] e h = gives_none s s e (even_none.stays s)
decls_give s (d ∷ ds) e h =
    let both = no_fault_both s (in_decl d) (flat_map in_decl ds) h in
    let t : Scope = behind s (in_decl d) in
    let g : Gives s (names_of (functions_of d.form)) t = form_gives s d.span d.form e both.0 in
    subst (λ z. Gives s z (behind s (flat_map in_decl (d ∷ ds)))) (sym (names_both (functions_of d.form) (functions_in ds)))
    (subst (Gives s (names_of (functions_of d.form) ++ names_of (functions_in ds))) (sym (behind_both s (in_decl d) (flat_map in_decl ds)))
    (gives_both s t (behind t (flat_map in_decl ds)) (names_of (functions_of d.form)) (names_of (functions_in ds)) g (decls_give t ds g.frames both.1)))

-- ---- modules

-- in each module that is named no two functions have one name
abbrev pub AreApartIn : List (List ℕ) → List Module → Type 0
AreApartIn (m ∷ names) (x ∷ modules) = Distinct (names_of (functions_in x.decls)) × AreApartIn names modules
AreApartIn _ _ = Unit {0}

modules_apart : (s : Scope) (names : List (List ℕ)) (modules : List Module) → fault_in s (in_modules names modules) ≡ None → AreApartIn names modules
modules_apart s [] modules h = tt
modules_apart s (m ∷ names) [] h = tt
modules_apart s (m ∷ names) (x ∷ modules) h =
    let both = no_fault_both s (in_module m x) (in_modules names modules) h in
    ((decls_give (after s (event.Enter m)) x.decls refl both.0).apart, modules_apart (behind s (in_module m x)) names modules both.1)

pub functions_apart : (names : List (List ℕ)) (modules : List Module) (signature : Option Signature) → fault_of names modules signature ≡ None → AreApartIn names modules
functions_apart names modules signature h = modules_apart start names modules (no_fault_both start (in_modules names modules) (in_signature signature) h).0
