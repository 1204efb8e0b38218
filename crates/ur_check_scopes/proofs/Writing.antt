-- Written parameters, one after the other.
use Rattle.std.proofs.Common.{◌≡◌, refl, ap, ap₂, sym, ◌∙◌, subst₂, ℕ, ◌<◌, ◌≤◌, Bool, true, false, true≢false, ◌&&◌, List, [], ◌∷◌, ◌++◌, map, Option, Some, None, Err}
use Rattle.std.specs.Prelude.{option_map}
use Rattle.std.proofs.lemmas.Bool.{le-leb, lt-leb}
use Rattle.ur_typed_rules.proofs.Options.{some_of}
use Rattle.std.specs.Option.{option_and_then}
use Rattle.std.proofs.lemmas.List.{append-nil, append_assoc}
use Rattle.ur_base.specs.Stopping.{IfRefused}
use Rattle.ur_base.specs.declared.refusal.Refusal.{Refusal}
use Rattle.ur_base.specs.declared.refusal.Stop.{Stop}
use Rattle.ur_base.specs.declared.refusal.Stop.TheVariants as stop
use Rattle.ur_syntax.specs.declared.con.Con.{Con}
use Rattle.ur_syntax.specs.declared.exp.Binder.{Binder}
use Rattle.ur_syntax.specs.declared.exp.Param.{Param as WrittenParam}
use Rattle.ur_syntax.specs.declared.exp.Param.TheVariants as written_param
use Rattle.ur_rows.specs.declared.normal.Normal.{Normal}
use Rattle.ur_rows.specs.declared.normal.NormalType.{NormalType}
use Rattle.ur_rows.specs.Made.{unit}
use Rattle.ur_rows.specs.Nodes.{nodes, most_nodes}
use Rattle.ur_rows.specs.Normal.{nf}
use Rattle.ur_rows.specs.Put.{as_type}
use Rattle.ur_rows.specs.Types.{is_placed}
use Rattle.ur_syntax.specs.declared.exp.LambdaParam.{LambdaParam}
use Rattle.ur_syntax.specs.declared.exp.LambdaParam.TheVariants as lambda_param
use Rattle.ur_typed_rules.specs.Names.{Local, Names, bound_name, local_of, param_of}
use Rattle.ur_typed_rules.specs.Tests.{is_type}
use Rattle.ur_tree.specs.declared.exp.Param.{Param}
use Rattle.ur_typed_rules.specs.Faults.{Fault, too_large}
use Rattle.ur_tree.specs.Env.{Env}
use Rattle.ur_typed_rules.specs.Rules.{if_so, small_type, may_be_param, param_out, params_out, Params, no_params, and_params}
use Rattle.ur_typed_rules.specs.Arguments.{HasLarge, large_param, BreaksForms, bare_form, con_form, large_form, later_form}
use Rattle.ur_check_scopes.specs.declared.locals.Local.{Local as HeldLocal}
use Rattle.ur_check_scopes.specs.Views.{Refuses, StopIs, IsLarge, local_in, param_in}

-- ---- one parameter

abbrev valued : Binder → NormalType → Local × Param
valued x t = (local_of (bound_name x) t, param_of t)

abbrev local_param : Local → Param → Option (Local × Param)
local_param a b = Some (a, b)

-- a parameter with a written type that is small
pub value-out : (names : Names) (x : Binder) (c : Con) (n : Normal) (l : HeldLocal) → n ≡ nf names.cons c → nodes n ≤ most_nodes → local_in l ≡ local_of (bound_name x) (as_type n) → param_in l ≡ param_of (as_type n) →
    param_out 65536 names (written_param.Value x c) ≡ Some (local_in l, param_in l)
value-out names x c n l e small is ps =
    ap (λ z. option_map (valued x) (small_type 65536 z)) (sym e) ∙ ap (λ b. option_map (valued x) (if_so b (Some (as_type n)))) (le-leb (nodes n) most_nodes small) ∙ ap₂ local_param (sym is) (sym ps)

pub value-large : (names : Names) (x : Binder) (c : Con) → most_nodes < nodes (nf names.cons c) → HasLarge 65536 names (written_param.Value x c)
value-large names x c h = large_param (lt-leb (nodes (nf names.cons c)) most_nodes h)

-- as the only one of a lambda
pub typed-out : (names : Names) (p : WrittenParam) (l : HeldLocal) → param_out 65536 names p ≡ Some (local_in l, param_in l) → params_out 65536 names (lambda_param.Typed p ∷ []) ≡ Some (local_in l ∷ [], param_in l ∷ [])
typed-out names p l h = ap (option_and_then (λ (q : Local × Param). option_map (and_params q) (Some no_params))) h

pub typed-large : (names : Names) (p : WrittenParam) (r : Refusal) → IsLarge r → HasLarge 65536 names p → Refuses [] (BreaksForms 65536 names (lambda_param.Typed p ∷ [])) r
typed-large names p r says h = (too_large, large_form h, says)

-- one that is told, whatever the names
pub told-of-all : (P : Names → Type 0) (Q : Names → Fault → Type 0) (s : Stop) (f : Fault) → ((names : Names) → Q names f) → StopIs [] f s → IfRefused {A = Unit {0}} (Err s) (λ r. (names : Names) → P names → Refuses [] (Q names) r)
told-of-all P Q (stop.Refused r) f h t = λ names p. (f, h names, t)
told-of-all P Q stop.Memory f h t = tt

-- what it may be
both : (a b : Bool) → a ≡ true → b ≡ true → (a && b) ≡ true
both true b e h = h
both false b e h = absurd (true≢false (sym e))

pub param-right : (env : Env) (t : NormalType) → is_type env t ≡ true → is_placed t ≡ true → may_be_param env t ≡ true
param-right env t h k = both (is_type env t) (is_placed t) h k

pub unit-right : (env : Env) (t : NormalType) → t ≡ unit → may_be_param env t ≡ true
unit-right env t e = ap (may_be_param env) e

-- ---- all parameters of a lambda

sole-is : {A : Type 0} (x y : A) → x ∷ [] ≡ y ∷ [] → x ≡ y
sole-is x y h = cc

one-out : (x : Option (Local × Param)) (a : Local) (b : Param) (r : Option Params) (ls : List Local) (qs : List Param) →
    option_and_then (λ q. option_map (and_params q) (Some no_params)) x ≡ Some (a ∷ [], b ∷ []) → r ≡ Some (ls, qs) → option_and_then (λ q. option_map (and_params q) r) x ≡ Some (a ∷ ls, b ∷ qs)
one-out None a b r ls qs h e = absurd (cc)
one-out (Some q) a b r ls qs h e =
    let p : and_params q no_params ≡ (a ∷ [], b ∷ []) = some_of h in
    subst₂ (λ y z. option_map (and_params q) r ≡ Some (y ∷ ls, z ∷ qs)) (sole-is q.0 a (ap (λ (z : Params). z.0) p)) (sole-is q.1 b (ap (λ (z : Params). z.1) p)) (ap (option_map (and_params q)) e)

next-out : (most : ℕ) (names : Names) (p : LambdaParam) (a : Local) (b : Param) (rest : List LambdaParam) (ls : List Local) (qs : List Param) →
    params_out most names (p ∷ []) ≡ Some (a ∷ [], b ∷ []) → params_out most names rest ≡ Some (ls, qs) → params_out most names (p ∷ rest) ≡ Some (a ∷ ls, b ∷ qs)
next-out most names (lambda_param.Typed p) a b rest ls qs h e = one-out (param_out most names p) a b (params_out most names rest) ls qs h e
next-out most names (lambda_param.Con p) a b rest ls qs h e = absurd (cc)
next-out most names (lambda_param.Bare p) a b rest ls qs h e = absurd (cc)

abbrev both_in : List HeldLocal → Option Params
both_in ls = Some (map local_in ls, map param_in ls)

-- what the parameters that are left come to, all come to with those before
pub record Comes (most : ℕ) (names : Names) (all : List LambdaParam) (so_far : List HeldLocal) (left : List LambdaParam) : Type 0 where
  pub typed : (rest : List HeldLocal) → params_out most names left ≡ Some (map local_in rest, map param_in rest) → params_out most names all ≡ Some (map local_in (so_far ++ rest), map param_in (so_far ++ rest))
  pub broken : (f : Fault) → BreaksForms most names left f → BreaksForms most names all f

pub comes-start : (most : ℕ) (names : Names) (all : List LambdaParam) → Comes most names all [] all
comes-start most names all = record { typed = λ rest h. h; broken = λ f h. h }

pub comes-past : (most : ℕ) (names : Names) (all : List LambdaParam) (so_far : List HeldLocal) (p : LambdaParam) (l : HeldLocal) (rest : List LambdaParam) → Comes most names all so_far (p ∷ rest) →
    params_out most names (p ∷ []) ≡ Some (local_in l ∷ [], param_in l ∷ []) → Comes most names all (so_far ++ l ∷ []) rest
comes-past most names all so_far p l rest c h = record {
  typed = λ ls e. c.typed (l ∷ ls) (next-out most names p (local_in l) (param_in l) rest (map local_in ls) (map param_in ls) h e) ∙ ap both_in (sym (append_assoc so_far (l ∷ []) ls));
  broken = λ f b. c.broken f (later_form b);
}

alone : (most : ℕ) (names : Names) (p : LambdaParam) (rest : List LambdaParam) (f : Fault) → BreaksForms most names (p ∷ []) f → BreaksForms most names (p ∷ rest) f
alone most names _ rest _ bare_form = bare_form
alone most names _ rest _ con_form = con_form
alone most names _ rest _ (large_form h) = large_form h
alone most names p rest f (later_form b) = later_form (nothing f b)
  where
    nothing : (f : Fault) → BreaksForms most names [] f → BreaksForms most names rest f
    nothing f b = elim b [ ]

pub comes-broken : (most : ℕ) (names : Names) (all : List LambdaParam) (so_far : List HeldLocal) (p : LambdaParam) (rest : List LambdaParam) → Comes most names all so_far (p ∷ rest) → (f : Fault) → BreaksForms most names (p ∷ []) f → BreaksForms most names all f
comes-broken most names all so_far p rest c f b = c.broken f (alone most names p rest f b)

pub comes-end : (most : ℕ) (names : Names) (all : List LambdaParam) (so_far : List HeldLocal) → Comes most names all so_far [] → params_out most names all ≡ Some (map local_in so_far, map param_in so_far)
comes-end most names all so_far c = c.typed [] refl ∙ ap both_in (append-nil so_far)
