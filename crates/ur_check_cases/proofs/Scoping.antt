-- The scope of the step of a fold.
use Rattle.std.proofs.Common.{◌≡◌, refl, ap, ap₂, sym, ◌∙◌, List, [], ◌∷◌, ◌++◌, map, Some}
use Rattle.std.specs.Prelude.{option_map, option_and_then}
use Rattle.ur_syntax.specs.declared.exp.LambdaParam.{LambdaParam}
use Rattle.ur_syntax.specs.declared.con.ConEnv.{ConEnv}
use Rattle.ur_syntax.specs.declared.kind.Kind.{Kind}
use Rattle.ur_syntax.specs.declared.kind.Kind.TheVariants as kind
use Rattle.ur_rows.specs.Apart.{Assumptions}
use Rattle.ur_rows.specs.Made.{field, unit}
use Rattle.ur_rows.proofs.Shapes.{field-made}
use Rattle.ur_disjoint.specs.Tests.{pair}
use Rattle.ur_rows_normal.specs.Preparing.{Reads, Covers}
use Rattle.ur_tree.specs.Env.{Env}
use Rattle.ur_tree.specs.Typing.{step_name, step_rest, within_step}
use Rattle.ur_typed_rules.specs.Names.{Local, Names}
use Rattle.ur_typed_rules.specs.Scopes.{World, Scope}
use Rattle.ur_typed_rules.specs.Rules.{param_out}
use Rattle.ur_typed.specs.Folds.{Step, step_form, step_names, step_with, step_by, step_of}
use Rattle.ur_check_scopes.specs.declared.around.Around.{Around}
use Rattle.ur_check_scopes.specs.declared.locals.Local.{Local as HeldLocal}
use Rattle.ur_check_scopes.specs.declared.locals.Locals.{Locals}
use Rattle.ur_check_scopes.proofs.Finding.{Bound}
use Rattle.ur_check_scopes.specs.Views.{Stands, env_in, local_in, param_in, of_fixed, of_variables, locals_in, values_in, fixed_in, world_in}
use Rattle.ur_check_cases.specs.declared.scopes.StepScope.{StepScope}

pub ruleset parts = (field-made)

-- ---- where the step stands

-- what is known of the scope of a step
pub record IsStepScope (a : Around) (p : Step) (x : StepScope) : Type 0 where
  pub names : (ns : Names) → Reads a.scope.cons.names ns.cons → Covers x.names a.scope.cons.names (step_names p ns).cons
  pub kinds : x.kinds ≡ a.scope.cons.kinds.now ++ kind.Name ∷ kind.Star ∷ kind.Row ∷ []
  pub known : map pair x.known ≡ (field (step_name (env_in a.scope.cons)) unit ∷ [], step_rest (env_in a.scope.cons)) ∷ map pair a.scope.cons.known.now

-- what is known of the place within it
pub record IsWithin (a : Around) (x : StepScope) (locals : Locals) (inner : Around) : Type 0 where
  pub world : inner.world ≡ a.world
  pub names : (env : ConEnv) → Covers x.names a.scope.cons.names env → Reads inner.scope.cons.names env
  pub kinds : inner.scope.cons.kinds.now ≡ x.kinds
  pub known : inner.scope.cons.known.now ≡ x.known
  pub within : inner.scope.locals ≡ locals

abbrev pub step_kinds : List Kind → List Kind
step_kinds ks = ks ++ kind.Name ∷ kind.Star ∷ kind.Row ∷ []

abbrev pub step_known : List Kind → Assumptions → Assumptions
step_known ks known = (field (step_name (record { kinds = ks; known = known; values = []; fixed = [] })) unit ∷ [], step_rest (record { kinds = ks; known = known; values = []; fixed = [] })) ∷ known

-- the scope of the step before its parameter
abbrev pub bare_step : Step → Scope → Scope
bare_step p s = record { names = step_names p s.names; env = record s.env { kinds = step_kinds s.env.kinds; known = step_known s.env.kinds s.env.known } }

within-stands : (a inner : Around) (p : Step) (x : StepScope) (locals : Locals) → IsStepScope a p x → IsWithin a x locals inner → (w : World) (s : Scope) → Stands a w s → (ls : List Local) (env : Env) → env.kinds ≡ step_kinds s.env.kinds → env.known ≡ step_known s.env.kinds s.env.known →
    ls ≡ locals_in locals → env.values ≡ values_in locals → env.fixed ≡ fixed_in locals → Stands inner w (record { names = record { cons = (step_names p s.names).cons; locals = ls }; env = env })
within-stands a inner p x locals h k w s stands ls env ek en el ev ef = record {
  world = stands.world ∙ ap (λ z. world_in z.now) (sym k.world);
  cons = k.names (step_names p s.names).cons (h.names s.names stands.cons);
  kinds = ek ∙ ap step_kinds stands.kinds ∙ sym h.kinds ∙ sym k.kinds;
  known = en ∙ ap₂ step_known stands.kinds stands.known ∙ sym h.known ∙ ap (map pair) (sym k.known);
  locals = el ∙ ap locals_in (sym k.within);
  values = ev ∙ ap values_in (sym k.within);
  fixed = ef ∙ ap fixed_in (sym k.within);
}

-- before its parameter
pub bare-stands : (a inner : Around) (p : Step) (x : StepScope) → IsStepScope a p x → IsWithin a x a.scope.locals inner → (w : World) (s : Scope) → Stands a w s → Stands inner w (bare_step p s)
bare-stands a inner p x h k w s stands =
    within-stands a inner p x a.scope.locals h k w s stands s.names.locals (record s.env { kinds = step_kinds s.env.kinds; known = step_known s.env.kinds s.env.known }) refl refl stands.locals stands.values stands.fixed

-- and behind it
pub step-stands : (a inner : Around) (p : Step) (x : StepScope) (own : List HeldLocal) (local : HeldLocal) (ls : Locals) → own ≡ local ∷ [] → Bound ls own a.scope.locals → IsStepScope a p x → IsWithin a x ls inner → (w : World) (s : Scope) → Stands a w s →
    Stands inner w (step_with s (step_names p s.names) (local_in local, param_in local)).0
step-stands a inner p x own local ls one b h k w s stands =
    within-stands a inner p x ls h k w s stands (local_in local ∷ s.names.locals) (within_step (param_in local) s.env) refl refl
    (ap (λ z. local_in local ∷ z) stands.locals ∙ ap (λ z. map local_in z ++ locals_in a.scope.locals) (sym one) ∙ sym b.names)
    (ap (λ z. of_variables (local ∷ []) ++ z) stands.values ∙ ap (λ z. of_variables z ++ values_in a.scope.locals) (sym one) ∙ sym b.values)
    (ap (λ z. of_fixed (local ∷ []) ++ z) stands.fixed ∙ ap (λ z. of_fixed z ++ fixed_in a.scope.locals) (sym one) ∙ sym b.fixed)

-- the scope and the parameter of a step of this form
pub step-is : (w : World) (s : Scope) (params : List LambdaParam) (p : Step) (local : HeldLocal) → step_form params ≡ Some p → param_out w.most (step_names p s.names) p.acc ≡ Some (local_in local, param_in local) →
    step_of w s params ≡ Some (step_with s (step_names p s.names) (local_in local, param_in local))
step-is w s params p local h k = ap (option_and_then (step_by w s)) h ∙ ap (option_map (step_with s (step_names p s.names))) k
