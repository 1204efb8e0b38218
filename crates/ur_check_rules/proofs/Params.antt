-- The parameters of a type of functions, and arguments at static parameters.
use Rattle.std.proofs.Common.{◌≡◌, refl, ap, ap₂, sym, ◌∙◌, subst, ◌<◌, ℕ, Bool, true, false, List, [], ◌∷◌, ◌++◌, map, length, Err, arith}
use Rattle.std.specs.Prelude.{◌&&◌, ◌||◌, not, codes}
use Rattle.ur_base.specs.Stopping.{IfRefused}
use Rattle.ur_base.specs.declared.refusal.Stop.{Stop}
use Rattle.ur_base.specs.declared.refusal.Stop.TheVariants as stop
use Rattle.ur_rows.specs.declared.normal.NormalType.{NormalType, end_of-NormalType as sole, more_of-NormalType as the}
use Rattle.ur_rows.specs.declared.normal.NormalType.TheVariants as ty
use Rattle.ur_rows.proofs.Shapes.{arrow-made}
use Rattle.ur_tree.specs.declared.exp.Exp.{Exp}
use Rattle.ur_tree.specs.declared.exp.Param.{Param}
use Rattle.ur_tree.specs.IsStatic.{is_static}
use Rattle.ur_tree.specs.Typing.{are_static_at, parameters, with_parameter}
use Rattle.ur_typed_rules.specs.Faults.{TellsType, not_so}
use Rattle.ur_check_scopes.specs.Views.{StopIs}
use Rattle.ur_check_rules.specs.Views.{args_with}

-- ---- arguments

-- behind one argument that may stand at its parameter
pub static-past : (ps further : List Param) (p : Param) (xs rest : List Exp) (x : Exp) (may all : Bool) → ps ≡ p ∷ further → xs ≡ x ∷ rest → may ≡ (not p.fixed || is_static x) → may ≡ true → are_static_at ps (args_with xs).1 ≡ all → are_static_at further (args_with rest).1 ≡ all
static-past ps further p xs rest x may all e f m h i = sym (ap₂ (λ a b. are_static_at a (args_with b).1) e f ∙ ap (λ z. z && are_static_at further (args_with rest).1) (sym m ∙ h)) ∙ i

pub static-not : (ps further : List Param) (p : Param) (xs rest : List Exp) (x : Exp) (may all : Bool) → ps ≡ p ∷ further → xs ≡ x ∷ rest → may ≡ (not p.fixed || is_static x) → may ≡ false → are_static_at ps (args_with xs).1 ≡ all → false ≡ all
static-not ps further p xs rest x may all e f m h i = sym (ap₂ (λ a b. are_static_at a (args_with b).1) e f ∙ ap (λ z. z && are_static_at further (args_with rest).1) (sym m ∙ h)) ∙ i

static-none : (ps : List Param) → are_static_at ps (args_with []).1 ≡ true
static-none [] = refl
static-none (p ∷ ps) = refl

-- where no argument is left, and where no parameter is
pub static-last : (ps : List Param) (xs : List Exp) (all : Bool) → xs ≡ [] → are_static_at ps (args_with xs).1 ≡ all → true ≡ all
static-last ps xs all f i = sym (ap (λ b. are_static_at ps (args_with b).1) f ∙ static-none ps) ∙ i

static-end : (xs : List Exp) → are_static_at [] (args_with xs).1 ≡ true
static-end [] = refl
static-end (x ∷ xs) = refl

pub static-done : (ps : List Param) (xs : List Exp) (all : Bool) → ps ≡ [] → are_static_at ps (args_with xs).1 ≡ all → true ≡ all
static-done ps xs all e i = sym (ap (λ a. are_static_at a (args_with xs).1) e ∙ static-end xs) ∙ i

-- what stands at a static parameter is told not to be static
pub static-told : (b : Bool) (s : Stop) → b ≡ false → ((names : List (List ℕ)) → StopIs names (not_so (codes "an argument") (codes "a static expression")) s) →
    IfRefused {A = Unit {0}} (Err s) (λ r. (b ≡ false) × ((names : List (List ℕ)) → TellsType names r (not_so (codes "an argument") (codes "a static expression"))))
static-told b (stop.Refused r) h t = (h, t)
static-told b stop.Memory h t = tt

pub ruleset static_at = (static-past, static-not, static-last, static-done)

-- ---- parameters

pub parameters-arrow : (a b : NormalType) → parameters (ty.Arrow a b) ≡ with_parameter a (parameters b)
parameters-arrow a b = ap parameters (arrow-made a b)

-- behind one parameter
pub one-arrow : (t a b u : NormalType) → t ≡ ty.Arrow a b → u ≡ b → parameters t ≡ with_parameter a (parameters u)
one-arrow t a b u e h = ap parameters e ∙ parameters-arrow a b ∙ ap (λ z. with_parameter a (parameters z)) (sym h)

pub no-arrow : (t : NormalType) → ((a b : NormalType) → t ≡ ty.Arrow a b → ⊥) → parameters t ≡ ([], t)
no-arrow (ty.Arrow' _ (the a sole) _ (the b sole)) n = absurd (n a b (sym (arrow-made a b)))
no-arrow t n = refl

onto-one : {R : Type 0} (type_of : R → NormalType) (old : List R) (x : R) (ts : List NormalType) → (map type_of (old ++ x ∷ []) ++ ts) ≡ (map type_of old ++ type_of x ∷ ts)
onto-one type_of [] x ts = refl
onto-one type_of (y ∷ old) x ts = ap (λ z. type_of y ∷ z) (onto-one type_of old x ts)

pub params-past : {R : Type 0} (type_of : R → NormalType) (old new : List R) (x : R) (t a b u : NormalType) (all : List NormalType) → t ≡ ty.Arrow a b → new ≡ old ++ x ∷ [] → type_of x ≡ a → u ≡ b → (map type_of old ++ (parameters t).0) ≡ all → (map type_of new ++ (parameters u).0) ≡ all
params-past type_of old new x t a b u all e n h k i =
    ap (λ z. map type_of z ++ (parameters u).0) n ∙ onto-one type_of old x (parameters u).0 ∙ ap (λ z. map type_of old ++ z ∷ (parameters u).0) h ∙ ap (λ z. map type_of old ++ z.0) (sym (one-arrow t a b u e k)) ∙ i

append-none : {A : Type 0} (xs : List A) → (xs ++ []) ≡ xs
append-none [] = refl
append-none (x ∷ xs) = ap (λ z. x ∷ z) (append-none xs)

pub params-end : (ts : List NormalType) (t : NormalType) (all : List NormalType) → ((a b : NormalType) → t ≡ ty.Arrow a b → ⊥) → (ts ++ (parameters t).0) ≡ all → ts ≡ all
params-end ts t all n i = sym (ap (λ z. ts ++ z.0) (no-arrow t n) ∙ append-none ts) ∙ i

pub params-less : (t a b u : NormalType) → t ≡ ty.Arrow a b → u ≡ b → length (parameters u).0 < length (parameters t).0
params-less t a b u e h = subst (λ z. length (parameters u).0 < length z.0) (sym (one-arrow t a b u e h)) (grind arith)

pub result-past : (t a b u : NormalType) (all : NormalType) → t ≡ ty.Arrow a b → u ≡ b → (parameters t).1 ≡ all → (parameters u).1 ≡ all
result-past t a b u all e h i = sym (ap (λ z. z.1) (one-arrow t a b u e h)) ∙ i

pub result-end : (t u all : NormalType) → ((a b : NormalType) → t ≡ ty.Arrow a b → ⊥) → u ≡ t → (parameters t).1 ≡ all → u ≡ all
result-end t u all n e i = e ∙ sym (ap (λ z. z.1) (no-arrow t n)) ∙ i

pub ruleset arrows = (params-past, params-end, params-less, result-past, result-end)
