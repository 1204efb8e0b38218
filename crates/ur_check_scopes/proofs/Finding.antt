-- What a name stands for among the names of a binder and those around it.
use Rattle.std.proofs.Common.{◌≡◌, refl, ap, sym, ◌∙◌, subst, ℕ, Bool, true, false, List, [], ◌++◌, map, Option, Some}
use Rattle.std.proofs.lemmas.List.{append-nil}
use Rattle.ur_rows.specs.declared.normal.NormalType.{NormalType}
use Rattle.ur_typed_rules.specs.Names.{Local}
use Rattle.ur_check_scopes.specs.declared.locals.Local.{Local as HeldLocal}
use Rattle.ur_check_scopes.specs.declared.locals.Locals.{Locals}
use Rattle.ur_check_scopes.specs.declared.locals.Place.{Place}
use Rattle.ur_check_scopes.specs.declared.locals.Before.{Before}
use Rattle.ur_check_scopes.specs.declared.locals.Sought.TheVariants as sought
use Rattle.ur_check_scopes.specs.Views.{StandsFor, local_in, of_variables, of_fixed, locals_in, values_in, fixed_in}
use Rattle.ur_check_scopes.specs.Searching.{visible, SoughtIn}

-- what is around a binder, or around a lambda
pub record Bound (ls : Locals) (own : List HeldLocal) (around : Locals) : Type 0 where
  pub names : locals_in ls ≡ map local_in own ++ locals_in around
  pub values : values_in ls ≡ of_variables own ++ values_in around
  pub fixed : fixed_in ls ≡ of_fixed own ++ fixed_in around

pub record Lambda (ls : Locals) (own : List HeldLocal) (around : Locals) : Type 0 where
  pub names : locals_in ls ≡ map local_in own ++ locals_in around
  pub values : values_in ls ≡ of_variables own
  pub fixed : fixed_in ls ≡ of_fixed own ++ fixed_in around

stands-at : (x : List ℕ) (v f : ℕ) {a b : List Local} {p q : List NormalType} {m n : List NormalType} (found : Option Place) → a ≡ b → p ≡ q → m ≡ n → StandsFor x v f b q n found → StandsFor x v f a p m found
stands-at x v f {a} {b} {p} {q} {m} {n} found e g k h =
    subst (λ z. StandsFor x v f z p m found) (sym e) (subst (λ z. StandsFor x v f b z m found) (sym g) (subst (λ z. StandsFor x v f b q z found) (sym k) h))

pub bound-here : (x : List ℕ) (b : Before) (h : Bool) (own : List HeldLocal) (ls around : Locals) (p : Place) → Bound ls own around → SoughtIn x b h own (sought.Here p) →
    StandsFor x b.variables b.fixed (locals_in ls) (visible h (values_in ls)) (fixed_in ls) (Some p)
bound-here x b h own ls around p r s = stands-at x b.variables b.fixed (Some p) r.names (ap (visible h) r.values) r.fixed (s (locals_in around) (values_in around) (fixed_in around))

pub bound-behind : (x : List ℕ) (b c : Before) (h : Bool) (own : List HeldLocal) (ls around : Locals) (found : Option Place) → Bound ls own around → SoughtIn x b h own (sought.Behind c) →
    StandsFor x c.variables c.fixed (locals_in around) (visible h (values_in around)) (fixed_in around) found → StandsFor x b.variables b.fixed (locals_in ls) (visible h (values_in ls)) (fixed_in ls) found
bound-behind x b c h own ls around found r s k =
    stands-at x b.variables b.fixed found r.names (ap (visible h) r.values) r.fixed (s (locals_in around) (values_in around) (fixed_in around) found k)

lambda-values : {ls : Locals} {own : List HeldLocal} {around : Locals} (h : Bool) → Lambda ls own around → visible h (values_in ls) ≡ visible h (of_variables own ++ [])
lambda-values {own = own} h r = ap (visible h) (r.values ∙ sym (append-nil (of_variables own)))

none-visible : (h : Bool) → visible h [] ≡ []
none-visible true = refl
none-visible false = refl

pub lambda-here : (x : List ℕ) (b : Before) (h : Bool) (own : List HeldLocal) (ls around : Locals) (p : Place) → Lambda ls own around → SoughtIn x b h own (sought.Here p) →
    StandsFor x b.variables b.fixed (locals_in ls) (visible h (values_in ls)) (fixed_in ls) (Some p)
lambda-here x b h own ls around p r s = stands-at x b.variables b.fixed (Some p) r.names (lambda-values h r) r.fixed (s (locals_in around) [] (fixed_in around))

pub lambda-behind : (x : List ℕ) (b c : Before) (h : Bool) (own : List HeldLocal) (ls around : Locals) (found : Option Place) → Lambda ls own around → SoughtIn x b h own (sought.Behind c) →
    StandsFor x c.variables c.fixed (locals_in around) (visible true (values_in around)) (fixed_in around) found → StandsFor x b.variables b.fixed (locals_in ls) (visible h (values_in ls)) (fixed_in ls) found
lambda-behind x b c h own ls around found r s k =
    stands-at x b.variables b.fixed found r.names (lambda-values h r) r.fixed (s (locals_in around) [] (fixed_in around) found (subst (λ z. StandsFor x c.variables c.fixed (locals_in around) z (fixed_in around) found) (sym (none-visible h)) k))
