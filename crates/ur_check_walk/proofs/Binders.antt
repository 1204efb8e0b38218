-- Where a part stands behind a binder, a pattern, and the parameters of a lambda.
use Rattle.std.proofs.Common.{◌≡◌, refl, ap, ap₂, sym, ◌∙◌, subst, ℕ, Bool, true, false, List, [], ◌∷◌, ◌++◌, map, Option, Some, None}
use Rattle.std.specs.Prelude.{if◌then◌else◌, option_map}
use Rattle.ur_syntax.specs.declared.exp.Binder.{Binder}
use Rattle.ur_syntax.specs.declared.exp.PatForm.{PatForm}
use Rattle.ur_terms.specs.declared.term.Pattern.{Pattern}
use Rattle.ur_rows.specs.declared.normal.NormalType.{NormalType}
use Rattle.ur_disjoint.specs.Tests.{pair}
use Rattle.ur_rows_normal.specs.Preparing.{Reads}
use Rattle.ur_tree.specs.Env.{value_types, fixed_types}
use Rattle.ur_typed_rules.specs.Names.{Local, value, static, Globals, bound_name}
use Rattle.ur_typed_rules.specs.Scopes.{World, Scope, within_binder, within_branch, within_params}
use Rattle.ur_typed_rules.specs.Rules.{pattern_of}
use Rattle.ur_typed_rules.proofs.Options.{some_of}
use Rattle.ur_check_scopes.specs.declared.locals.Local.{Local as HeldLocal}
use Rattle.ur_check_scopes.specs.declared.around.Around.{Around}
use Rattle.ur_check_scopes.specs.Views.{Stands, world_in, local_in, param_in, of_variables, of_fixed, values_in, fixed_in}
use Rattle.ur_check_cases.specs.Binding.{plain_pattern, names_of}
use Rattle.ur_check_cases.proofs.Binders.{named, names-apart}
use Rattle.ur_check_walk.specs.Binding.{IsWithin, IsWithinLambda}

as-value : (l : HeldLocal) → l.fixed ≡ false → local_in l ≡ value l.name
as-value l f = ap (λ b. if b then static l.name else value l.name) f

-- behind a binder
pub stands-bound : (a i : Around) (l : HeldLocal) (x : Binder) (t : NormalType) → l.name ≡ bound_name x → l.fixed ≡ false → l.of ≡ t → IsWithin a (l ∷ []) i → (w : World) (s : Scope) → Stands a w s → Stands i w (within_binder x t s)
stands-bound a i l x t n f o r w s h = record {
  world = h.world ∙ ap (λ z. world_in z.now) (sym r.world);
  cons = subst (λ z. Reads z.names s.names.cons) (sym r.cons) h.cons;
  kinds = h.kinds ∙ ap (λ z. z.kinds.now) (sym r.cons);
  known = h.known ∙ ap (λ z. map pair z.known.now) (sym r.cons);
  locals = ap₂ (λ y ys. y ∷ ys) (ap value (sym n) ∙ sym (as-value l f)) h.locals ∙ sym r.names;
  values = ap₂ (λ y ys. y ∷ ys) (sym o) h.values ∙ sym (ap (λ b. (if b then [] else (l.of ∷ [])) ++ values_in a.scope.locals) f) ∙ sym r.values;
  fixed = h.fixed ∙ sym (ap (λ b. (if b then (l.of ∷ []) else []) ++ fixed_in a.scope.locals) f) ∙ sym r.fixed;
}

-- ---- patterns

static-no-value : (x y : Option (List ℕ)) → static x ≡ value y → ⊥
static-no-value x y k = cc

value-free : (l : HeldLocal) (b : Bool) (n : Option (List ℕ)) → l.fixed ≡ b → local_in l ≡ value n → l.fixed ≡ false
value-free l false n f e = f
value-free l true n f e = absurd (static-no-value l.name n (sym (ap (λ b. if b then static l.name else value l.name) f) ∙ e))

head-is : (x y : Local) (xs ys : List Local) → ◌≡◌ {A = List Local} (x ∷ xs) (y ∷ ys) → (x ≡ y) × (xs ≡ ys)
head-is x y xs ys h = (cc, cc)

none-fixed : (names : List (Option (List ℕ))) (ls : List HeldLocal) → map local_in ls ≡ map value names → of_fixed ls ≡ []
none-fixed names [] h = refl
none-fixed [] (l ∷ ls) h = absurd (cc)
none-fixed (n ∷ names) (l ∷ ls) h =
    let k : (local_in l ≡ value n) × (map local_in ls ≡ map value names) = head-is (local_in l) (value n) (map local_in ls) (map value names) h in
    ap (λ b. if b then l.of ∷ of_fixed ls else of_fixed ls) (value-free l l.fixed n refl k.0) ∙ none-fixed names ls k.1

names-of-pattern : (names : List Local) (o : Option Pattern) (q : List Local × Pattern) → option_map (named names) o ≡ Some q → q.0 ≡ names
names-of-pattern names None q h = absurd (cc)
names-of-pattern names (Some p) q h = sym (ap (λ (z : List Local × Pattern). z.0) (some_of h))

-- what a pattern binds is no static name
pub pattern-free : (g : Globals) (p : PatForm) (ls : List HeldLocal) (q : Pattern) → pattern_of g p ≡ Some (map local_in ls, q) → of_fixed ls ≡ []
pattern-free g p ls q h = none-fixed (names_of p) ls (names-of-pattern (map value (names_of p)) (plain_pattern g p) (map local_in ls, q) (sym (names-apart g p) ∙ h))

pub stands-branch : (a i : Around) (ls : List HeldLocal) → of_fixed ls ≡ [] → IsWithin a ls i → (w : World) (s : Scope) → Stands a w s → Stands i w (within_branch (map local_in ls) (of_variables ls) s)
stands-branch a i ls f r w s h = record {
  world = h.world ∙ ap (λ z. world_in z.now) (sym r.world);
  cons = subst (λ z. Reads z.names s.names.cons) (sym r.cons) h.cons;
  kinds = h.kinds ∙ ap (λ z. z.kinds.now) (sym r.cons);
  known = h.known ∙ ap (λ z. map pair z.known.now) (sym r.cons);
  locals = ap (λ ys. map local_in ls ++ ys) h.locals ∙ sym r.names;
  values = ap (λ ys. of_variables ls ++ ys) h.values ∙ sym r.values;
  fixed = h.fixed ∙ sym (ap (λ ys. ys ++ fixed_in a.scope.locals) f) ∙ sym r.fixed;
}

-- ---- parameters

pub value-types : (ls : List HeldLocal) → value_types (map param_in ls) ≡ of_variables ls
value-types [] = refl
value-types (l ∷ ls) = ap (λ z. if l.fixed then z else l.of ∷ z) (value-types ls)

pub fixed-types : (ls : List HeldLocal) → fixed_types (map param_in ls) ≡ of_fixed ls
fixed-types [] = refl
fixed-types (l ∷ ls) = ap (λ z. if l.fixed then l.of ∷ z else z) (fixed-types ls)

pub stands-lambda : (a i : Around) (ls : List HeldLocal) → IsWithinLambda a ls i → (w : World) (s : Scope) → Stands a w s → Stands i w (within_params (map local_in ls) (map param_in ls) s)
stands-lambda a i ls r w s h = record {
  world = h.world ∙ ap (λ z. world_in z.now) (sym r.world);
  cons = subst (λ z. Reads z.names s.names.cons) (sym r.cons) h.cons;
  kinds = h.kinds ∙ ap (λ z. z.kinds.now) (sym r.cons);
  known = h.known ∙ ap (λ z. map pair z.known.now) (sym r.cons);
  locals = ap (λ ys. map local_in ls ++ ys) h.locals ∙ sym r.names;
  values = value-types ls ∙ sym r.values;
  fixed = ap₂ (λ xs ys. xs ++ ys) (fixed-types ls) h.fixed ∙ sym r.fixed;
}
