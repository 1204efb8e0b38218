-- Folds.
use Rattle.std.proofs.Common.{arith, ◌≡◌, refl, ap, ap₂, sym, ◌∙◌, subst, ℕ, ◌<◌, ◌≤◌, Bool, true, false, ◌&&◌, List, [], ◌∷◌, Some, None, Err}
use Rattle.std.specs.Prelude.{nat_le, option_and_then, option_map}
use Rattle.ur_base.specs.Stopping.{IfRefused}
use Rattle.ur_base.specs.declared.refusal.Stop.{Stop}
use Rattle.ur_base.specs.declared.refusal.Stop.TheVariants as stop
use Rattle.ur_base.specs.declared.refusal.Refusal.{Refusal}
use Rattle.ur_base.specs.declared.refusal.Span.{Span}
use Rattle.ur_syntax.specs.declared.con.Con.{Con}
use Rattle.ur_syntax.specs.declared.con.ConEnv.{ConEnv}
use Rattle.ur_syntax.specs.declared.exp.Exp.{Exp}
use Rattle.ur_syntax.specs.declared.exp.LambdaParam.{LambdaParam}
use Rattle.ur_syntax.specs.declared.exp.Binder.{Binder}
use Rattle.ur_syntax.specs.declared.exp.ExpForm.{ExpForm, end_of-Exp as alone, more_of-Exp as its}
use Rattle.ur_syntax.specs.declared.exp.ExpForm.TheVariants as e
use Rattle.ur_syntax.specs.declared.exp.ExpForm.TheBlock as T
use Rattle.ur_rows.specs.declared.normal.Normal.{Normal}
use Rattle.ur_rows.specs.declared.normal.NormalType.{NormalType}
use Rattle.ur_rows.specs.declared.normal.Part.{Part}
use Rattle.ur_rows.specs.Nodes.{nodes, type_nodes, most_nodes}
use Rattle.ur_rows.specs.Normal.{nf, as_function}
use Rattle.ur_rows.specs.Put.{as_type}
use Rattle.ur_rows.specs.declared.normal.Normal.TheVariants as normal
use Rattle.ur_syntax.specs.declared.exp.Param.{Param as WrittenParam}
use Rattle.ur_syntax.specs.declared.exp.Param.TheVariants as written_param
use Rattle.ur_rows.specs.Types.{at_row, is_placed}
use Rattle.ur_rows.specs.Kinded.{type_is_in}
use Rattle.ur_rows_normal.specs.Preparing.{Reads}
use Rattle.ur_tree.specs.declared.exp.Param.{Param}
use Rattle.ur_tree.specs.Make as make
use Rattle.ur_tree.specs.Env.{Env, row_is_plain}
use Rattle.ur_tree.specs.Typing.{step_rest, step_row}
use Rattle.ur_typed_rules.specs.Names.{Local, Names, local_of, param_of, bound_name}
use Rattle.ur_typed_rules.specs.Tests.{same_type, is_param, rows_are_apart}
use Rattle.ur_typed_rules.specs.Arguments.{HasLarge}
use Rattle.ur_typed_rules.specs.Rules.{if_so, written_row, param_out, may_be_param}
use Rattle.ur_typed_rules.proofs.Options.{some_of, some_none}
use Rattle.ur_check_scopes.specs.Params.{IsWrittenType}
use Rattle.ur_check_scopes.proofs.There.{AreLike, written-there}
use Rattle.ur_typed_rules.specs.Scopes.{World, Scope, Mode, wants}
use Rattle.ur_typed_rules.specs.Faults.{Fault, TellsType as TellsFault, too_large, types_differ}
use Rattle.ur_typed.specs.Rules.{Sites, gives, then_}
use Rattle.ur_typed.specs.Folds.{fold_types, fold_with, step_form, step_names, step_with, step_of, step_fits}
use Rattle.ur_typed.specs.Walking.{walk, typed, step_walk}
use Rattle.ur_typed.specs.Parts.{start, step as in_step_of}
use Rattle.ur_typed.specs.Faults.{BreaksFoldRow, no_step, other_step, large_acc}
use Rattle.ur_typed.specs.Causes.{HasFault, Breaks, is_lambda, large_wanted, large_function, bad_row, unsettled, grows, bad_step, no_step_function, bad_acc, other_acc, large_rest}
use Rattle.ur_check_scopes.specs.declared.around.Around.{Around}
use Rattle.ur_check_scopes.specs.declared.locals.Local.{Local as HeldLocal}
use Rattle.ur_check_scopes.specs.declared.locals.Locals.{Locals}
use Rattle.ur_check_cases.specs.declared.steps.Step.{Step as HeldStep}
use Rattle.ur_check_cases.specs.declared.scopes.StepScope.{StepScope}
use Rattle.ur_check_cases.specs.Steps.{step_in}
use Rattle.ur_check_cases.proofs.Folding.{fold-types}
use Rattle.ur_check_cases.proofs.Scoping.{IsStepScope, IsWithin as IsWithinStep, bare_step, bare-stands, step-stands, step-is}
use Rattle.ur_check_scopes.specs.Views.{Stands, Refuses, StopIs, IsLarge, env_in, local_in, param_in}
use Rattle.ur_check_rules.specs.declared.out.Out.{Out as HeldOut}
use Rattle.ur_check_rules.specs.declared.out.Sites.{Sites as HeldSites}
use Rattle.ur_check_rules.specs.Views.{sites_in, out_in}
use Rattle.ur_check_rules.proofs.Settling.{most_is, is-large, is-small}
use Rattle.ur_check_walk.specs.Promises.{StandsSomewhere, Gives, GivesTyped, Tells}
use Rattle.ur_check_walk.proofs.Wholes.{told-there, lambda-plain}
use Rattle.ur_check_walk.specs.Folding.{GivesStep, TellsStep, BreaksAcc, rest_large, acc_misplaced, acc_other, IsInStep, IsBehindAcc}
use Rattle.ur_check_walk.proofs.Steps.{part as broken-within, rule as broken-here}

abbrev names_at : Around → List (List ℕ)
names_at a = a.world.now.datatype_names

pub fold-plain : (f : Con) (x y : Exp) (r : Con) → e.Fold f x y r ≡ e.Fold' f tt (its x.span x.form alone) tt (its y.span y.form alone) r
unfolding T.hidden-the_row-Exp-0 denote.Hole.Carrier.hidden
fold-plain f x y r = refl

-- the function and the row of the fold, where the code stands
abbrev pub AreTypes : Around → Con → Con → NormalType → List Part → Type 0
AreTypes a f r t parts = (w : World) (s : Scope) → Stands a w s → fold_types w s f r ≡ Some (t, parts)

pub fold-made : (a : Around) (st0 st1 st2 : HeldSites) (m : Mode) (f r : Con) (x y : Exp) (t empty : NormalType) (parts : List Part) (acc : Param) (out first o : HeldOut) → AreTypes a f r t parts → GivesStep a st0 x.form t (acc, out) st1 → empty ≡ at_row t [] →
    GivesTyped a st1 y.form (wants empty) first st2 → o.of ≡ at_row t parts → o.exp ≡ make.folded t acc out.exp first.exp parts → Gives a st0 (e.Fold f x y r) m o st2
fold-made a st0 st1 st2 m f r x y t empty parts acc out first o h k n g p q = λ w s stands.
    ap (λ z. walk w z s (sites_in st0) m) (fold-plain f x y r)
    ∙ ap (option_and_then (fold_with s (sites_in st0) (λ of. step_walk w (its x.span x.form alone) s (sites_in st0) of) (typed w y.form))) (h w s stands)
    ∙ ap (option_and_then (λ z. then_ (typed w y.form s z.1.sites (wants (at_row t []))) (λ d. gives (at_row t parts) (make.folded t z.0 z.1.exp d.exp parts) d.sites))) (k w s x.span stands)
    ∙ ap (λ z. then_ (typed w y.form s (sites_in st1) (wants z)) (λ d. gives (at_row t parts) (make.folded t acc out.exp d.exp parts) d.sites)) (sym n)
    ∙ ap (option_and_then (λ d. gives (at_row t parts) (make.folded t acc out.exp d.exp parts) d.sites)) (g w s stands)
    ∙ ap₂ (λ u v. gives u v (sites_in st2)) (sym p) (sym q)

pub function-broken : (a : Around) (st0 : HeldSites) (m : Mode) (f r : Con) (x y : Exp) (d : Refusal) → IsLarge d × ((env : ConEnv) → Reads a.scope.cons.names env → most_nodes < nodes (nf env f)) → Tells a st0 (e.Fold f x y r) m d
function-broken a st0 m f r x y d h = λ w s stands.
    subst (λ z. HasFault (names_at a) w s (sites_in st0) z m d) (sym (fold-plain f x y r))
    (broken-here (too_large, large_function (ap (nat_le (nodes (nf s.names.cons f))) (most_is a w s stands) ∙ is-large (nodes (nf s.names.cons f)) 65536 (h.1 s.names.cons stands.cons)), h.0))

pub row-broken : (a : Around) (st0 : HeldSites) (m : Mode) (f r : Con) (x y : Exp) (d : Refusal) → ((w : World) (s : Scope) → Stands a w s → Refuses (names_at a) (BreaksFoldRow (names_at a) w s r) d) → Tells a st0 (e.Fold f x y r) m d
row-broken a st0 m f r x y d h = λ w s stands.
    let t : Refuses (names_at a) (BreaksFoldRow (names_at a) w s r) d = h w s stands in
    subst (λ z. HasFault (names_at a) w s (sites_in st0) z m d) (sym (fold-plain f x y r)) (broken-here (t.0, bad_row t.1, t.2))

pub step-broken : (a : Around) (st0 : HeldSites) (m : Mode) (f r : Con) (x y : Exp) (t : NormalType) (parts : List Part) → AreTypes a f r t parts → (d : Refusal) → TellsStep a st0 x.form t d → Tells a st0 (e.Fold f x y r) m d
step-broken a st0 m f r x y t parts h d k = λ w s stands.
    subst (λ z. HasFault (names_at a) w s (sites_in st0) z m d) (sym (fold-plain f x y r)) (k w s m f r x.span y.span y.form parts stands (h w s stands))

pub in-start : (a : Around) (st0 st1 : HeldSites) (m : Mode) (f r : Con) (x y : Exp) (t empty : NormalType) (parts : List Part) (acc : Param) (out : HeldOut) → AreTypes a f r t parts → GivesStep a st0 x.form t (acc, out) st1 → empty ≡ at_row t [] →
    (d : Refusal) → Tells a st1 y.form (wants empty) d → Tells a st0 (e.Fold f x y r) m d
in-start a st0 st1 m f r x y t empty parts acc out h k n d g = λ w s stands.
    subst (λ z. HasFault (names_at a) w s (sites_in st0) z m d) (sym (fold-plain f x y r))
    (broken-within (start {d = (acc, out_in out st1)} (h w s stands) (k w s x.span stands)) (subst (λ z. HasFault (names_at a) w s (sites_in st1) y.form (wants z) d) n (g w s stands)))

-- the type of the fold of no field is too large, which is wanted of the start
pub start-large : (a : Around) (st0 st1 : HeldSites) (m : Mode) (f r : Con) (x y : Exp) (t : NormalType) (parts : List Part) (acc : Param) (out : HeldOut) → AreTypes a f r t parts → GivesStep a st0 x.form t (acc, out) st1 →
    (d : Refusal) → IsLarge d × (most_nodes < type_nodes (at_row t [])) → Tells a st0 (e.Fold f x y r) m d
start-large a st0 st1 m f r x y t parts acc out h k d g = λ w s stands.
    subst (λ z. HasFault (names_at a) w s (sites_in st0) z m d) (sym (fold-plain f x y r))
    (broken-within (start {d = (acc, out_in out st1)} (h w s stands) (k w s x.span stands))
    (broken-here (too_large, large_wanted (ap (nat_le (type_nodes (at_row t []))) (most_is a w s stands) ∙ is-large (type_nodes (at_row t [])) 65536 g.1), g.0)))

-- the whole type is too large
pub whole-large : (a : Around) (st0 st1 st2 : HeldSites) (m : Mode) (f r : Con) (x y : Exp) (t empty : NormalType) (parts : List Part) (acc : Param) (out first : HeldOut) → AreTypes a f r t parts → GivesStep a st0 x.form t (acc, out) st1 → empty ≡ at_row t [] →
    GivesTyped a st1 y.form (wants empty) first st2 → (d : Refusal) → IsLarge d × (most_nodes < type_nodes (at_row t parts)) → Tells a st0 (e.Fold f x y r) m d
whole-large a st0 st1 st2 m f r x y t empty parts acc out first h k n g d l = λ w s stands.
    let whole : HeldOut = record { of = at_row t parts; exp = make.folded t acc out.exp first.exp parts } in
    broken-here (
      too_large,
      unsettled (fold-made a st0 st1 st2 m f r x y t empty parts acc out first whole h k n g refl refl w s stands)
          (grows (ap (nat_le (type_nodes (at_row t parts))) (most_is a w s stands) ∙ is-large (type_nodes (at_row t parts)) 65536 l.1)),
      l.0,
    )

-- the function and the row that the code has read
pub types-are : (a : Around) (f r : Con) (n : Normal) (parts : List Part) → ((env : ConEnv) → Reads a.scope.cons.names env → n ≡ nf env f) → ((env : ConEnv) → Reads a.scope.cons.names env → nodes n ≤ most_nodes) → ((w : World) (s : Scope) → Stands a w s → written_row w s r ≡ Some parts) → row_is_plain parts ≡ true →
    AreTypes a f r (as_function n) parts
types-are a f r n parts h k g q = λ w s stands.
    fold-types w s f r parts (ap (λ z. nat_le (nodes z) w.most) (sym (h s.names.cons stands.cons)) ∙ ap (nat_le (nodes n)) (most_is a w s stands) ∙ is-small (nodes n) 65536 (k s.names.cons stands.cons)) (g w s stands) q
    ∙ ap (λ z. Some (as_function z, parts)) (sym (h s.names.cons stands.cons))

-- ---- the step

-- the code is in the step, with these names
in-step-there : (a i : Around) (x : StepScope) (ls : Locals) → IsInStep a x ls i → IsWithinStep a x ls i
in-step-there a i x ls h = record { world = h.world; names = h.names; kinds = h.kinds; known = h.known; within = h.locals }

-- what the code has read of a step
pub record Stepping (a bare : Around) (params : List LambdaParam) (step : HeldStep) (scope : StepScope) : Type 0 where
  pub form : step_form params ≡ Some (step_in step)
  pub made : IsStepScope a (step_in step) scope
  pub there : IsInStep a scope a.scope.locals bare

-- and of its parameter
abbrev pub IsAcc : Around → HeldStep → HeldLocal → Type 0
IsAcc bare step local = (names : Names) → Reads bare.scope.cons.names names.cons → param_out 65536 names step.acc.now ≡ Some (local_in local, param_in local)

abbrev acc_at : Scope → HeldStep → HeldLocal → Scope × Param
acc_at s step local = step_with s (step_names (step_in step) s.names) (local_in local, param_in local)

bare-there : (a bare : Around) (params : List LambdaParam) (step : HeldStep) (scope : StepScope) → Stepping a bare params step scope → (w : World) (s : Scope) → Stands a w s → Stands bare w (bare_step (step_in step) s)
bare-there a bare params step scope h w s stands = bare-stands a bare (step_in step) scope h.made (in-step-there a bare scope a.scope.locals h.there) w s stands

acc-there : (a bare : Around) (params : List LambdaParam) (step : HeldStep) (scope : StepScope) (local : HeldLocal) → Stepping a bare params step scope → IsAcc bare step local → (w : World) (s : Scope) → Stands a w s →
    param_out w.most (step_names (step_in step) s.names) step.acc.now ≡ Some (local_in local, param_in local)
acc-there a bare params step scope local h k w s stands =
    ap (λ n. param_out n (step_names (step_in step) s.names) step.acc.now) (most_is a w s stands) ∙ k (step_names (step_in step) s.names) (bare-there a bare params step scope h w s stands).cons

scope-is : (a bare : Around) (params : List LambdaParam) (step : HeldStep) (scope : StepScope) (local : HeldLocal) → Stepping a bare params step scope → IsAcc bare step local → (w : World) (s : Scope) → Stands a w s → step_of w s params ≡ Some (acc_at s step local)
scope-is a bare params step scope local h k w s stands = step-is w s params (step_in step) local h.form (acc-there a bare params step scope local h k w s stands)

like-there : (a bare : Around) (params : List LambdaParam) (step : HeldStep) (scope : StepScope) (local : HeldLocal) → Stepping a bare params step scope → (w : World) (s : Scope) → Stands a w s → AreLike (acc_at s step local).0.env (env_in bare.scope.cons)
like-there a bare params step scope local h w s stands = let b : Stands bare w (bare_step (step_in step) s) = bare-there a bare params step scope h w s stands in record { kinds = b.kinds; known = b.known }

same-may : (d b : Env) (t : NormalType) → AreLike d b → may_be_param d t ≡ may_be_param b t
same-may d b t l = ap₂ (λ x y. (x && y) && is_placed t) (ap (λ z. type_is_in (record { free = z; bound = [] }) t) l.kinds) (ap (λ z. rows_are_apart z t) l.known)

written-type : (most : ℕ) (names : Names) (p : WrittenParam) (q : Local × Param) → param_out most names p ≡ Some q → IsWrittenType p q.1.of
written-type most names (written_param.Value x c) q h = tt
written-type most names written_param.Unit q h = ap (λ (z : Local × Param). z.1.of) (sym (some_of h))

-- the type of the parameter may be one
abbrev pub MayAcc : Around → HeldStep → HeldLocal → Type 0
MayAcc bare step local = IsWrittenType step.acc.now local.of → may_be_param (env_in bare.scope.cons) local.of ≡ true

may-there : (a bare : Around) (params : List LambdaParam) (step : HeldStep) (scope : StepScope) (local : HeldLocal) → Stepping a bare params step scope → IsAcc bare step local → MayAcc bare step local → (w : World) (s : Scope) → Stands a w s → is_param (acc_at s step local).0.env (param_in local) ≡ true
may-there a bare params step scope local h k may w s stands =
    same-may (acc_at s step local).0.env (env_in bare.scope.cons) local.of (like-there a bare params step scope local h w s stands)
    ∙ may (written-type w.most (step_names (step_in step) s.names) step.acc.now (local_in local, param_in local) (acc-there a bare params step scope local h k w s stands))

rest-there : (a : Around) (w : World) (s : Scope) → Stands a w s → step_rest s.env ≡ step_rest (env_in a.scope.cons)
rest-there a w s stands = ap (λ ks. step_rest (record { kinds = ks; known = []; values = []; fixed = [] })) stands.kinds

row-there : (a : Around) (w : World) (s : Scope) → Stands a w s → step_row s.env ≡ step_row (env_in a.scope.cons)
row-there a w s stands = ap (λ ks. step_row (record { kinds = ks; known = []; values = []; fixed = [] })) stands.kinds

inner-there : (a bare inner : Around) (params : List LambdaParam) (step : HeldStep) (scope : StepScope) (local : HeldLocal) (own : List HeldLocal) → Stepping a bare params step scope → own ≡ local ∷ [] → IsBehindAcc a scope own inner → (w : World) (s : Scope) → Stands a w s →
    Stands inner w (acc_at s step local).0
inner-there a bare inner params step scope local own h one k w s stands = step-stands a inner (step_in step) scope own local inner.scope.locals one (record { names = k.names; values = k.values; fixed = k.fixed }) h.made (record { world = k.world; names = k.cons; kinds = k.kinds; known = k.known; within = refl }) w s stands

pub step-made : (a bare inner : Around) (st0 st1 : HeldSites) (params : List LambdaParam) (x : Exp) (t wanted : NormalType) (step : HeldStep) (scope : StepScope) (local : HeldLocal) (own : List HeldLocal) (acc : Param) (out : HeldOut) → Stepping a bare params step scope → IsAcc bare step local → MayAcc bare step local →
    same_type local.of (at_row t (step_rest (env_in a.scope.cons))) ≡ true → wanted ≡ at_row t (step_row (env_in a.scope.cons)) → own ≡ local ∷ [] → IsBehindAcc a scope own inner → GivesTyped inner st0 x.form (wants wanted) out st1 → acc ≡ param_in local →
    GivesStep a st0 (e.Lambda params x) t (acc, out) st1
step-made a bare inner st0 st1 params x t wanted step scope local own acc out h k may same wd one i g q = λ w s p stands.
    ap (λ z. step_walk w (its p z alone) s (sites_in st0) t) (lambda-plain params x)
    ∙ ap (option_and_then (λ z. if_so (step_fits s t z) (then_ (typed w x.form z.0 (sites_in st0) (wants (at_row t (step_row s.env)))) (λ o. Some (z.1, o))))) (scope-is a bare params step scope local h k w s stands)
    ∙ ap₂ (λ y z. if_so (y && z) (then_ (typed w x.form (acc_at s step local).0 (sites_in st0) (wants (at_row t (step_row s.env)))) (λ o. Some (param_in local, o)))) (may-there a bare params step scope local h k may w s stands)
    (ap (λ z. same_type local.of (at_row t z)) (rest-there a w s stands) ∙ same)
    ∙ ap (λ z. then_ (typed w x.form (acc_at s step local).0 (sites_in st0) (wants z)) (λ o. Some (param_in local, o))) (ap (at_row t) (row-there a w s stands) ∙ sym wd)
    ∙ ap (option_and_then (λ o. Some (param_in local, o))) (g w (acc_at s step local).0 (inner-there a bare inner params step scope local own h one i w s stands))
    ∙ ap (λ z. Some (z, out_in out st1)) (sym q)

-- a fault of a fold whose step is a lambda
as-lambda : (names : List (List ℕ)) (w : World) (s : Scope) (st : Sites) (m : Mode) (f row : Con) (p q : Span) (params : List LambdaParam) (x : Exp) (y : ExpForm) (r : Refusal) → HasFault names w s st (e.Fold' f tt (its p (e.Lambda' params tt (its x.span x.form alone)) alone) tt (its q y alone) row) m r →
    HasFault names w s st (e.Fold' f tt (its p (e.Lambda params x) alone) tt (its q y alone) row) m r
as-lambda names w s st m f row p q params x y r h = subst (λ z. HasFault names w s st (e.Fold' f tt (its p z alone) tt (its q y alone) row) m r) (sym (lambda-plain params x)) h

pub form-refused : (a : Around) (st : HeldSites) (params : List LambdaParam) (x : Exp) (t : NormalType) (r : Refusal) → (step_form params ≡ None) × ((names : List (List ℕ)) → TellsFault names r no_step) → TellsStep a st (e.Lambda params x) t r
form-refused a st params x t r h = λ w s m f row p q y parts stands k.
    as-lambda (names_at a) w s (sites_in st) m f row p q params x y r (broken-here (no_step, bad_step (other_step h.0), h.1 (names_at a)))

pub acc-large : (a bare : Around) (st : HeldSites) (params : List LambdaParam) (x : Exp) (t : NormalType) (step : HeldStep) (scope : StepScope) → Stepping a bare params step scope → (r : Refusal) → IsLarge r × ((names : Names) → Reads bare.scope.cons.names names.cons → HasLarge 65536 names step.acc.now) → TellsStep a st (e.Lambda params x) t r
acc-large a bare st params x t step scope h r l = λ w s m f row p q y parts stands k.
    as-lambda (names_at a) w s (sites_in st) m f row p q params x y r (broken-here (
      too_large,
      bad_step (large_acc h.form (subst (λ n. HasLarge n (step_names (step_in step) s.names) step.acc.now) (sym (most_is a w s stands))
          (l.1 (step_names (step_in step) s.names) (bare-there a bare params step scope h w s stands).cons))),
      l.0,
    ))

type-small : (n : Normal) (most : ℕ) → 1 ≤ most → nat_le (nodes n) most ≡ true → nat_le (type_nodes (as_type n)) most ≡ true
type-small (normal.Type t) most o h = h
type-small (normal.Name x) most o h = is-small 1 most o
type-small (normal.Row r) most o h = is-small 1 most o
type-small (normal.Fn' j k c) most o h = is-small 1 most o

value-small : (most : ℕ) → 1 ≤ most → (x : Binder) (n : Normal) (q : Local × Param) (b : Bool) → nat_le (nodes n) most ≡ b → option_map (λ t. (local_of (bound_name x) t, param_of t)) (if_so b (Some (as_type n))) ≡ Some q → nat_le (type_nodes q.1.of) most ≡ true
value-small most o x n q true l h = subst (λ (z : Local × Param). nat_le (type_nodes z.1.of) most ≡ true) (some_of h) (type-small n most o l)
value-small most o x n q false l h = absurd (some_none (sym h))

written-small : (most : ℕ) → 1 ≤ most → (names : Names) (p : WrittenParam) (q : Local × Param) → param_out most names p ≡ Some q → nat_le (type_nodes q.1.of) most ≡ true
written-small most o names (written_param.Value x c) q h = value-small most o x (nf names.cons c) q (nat_le (nodes (nf names.cons c)) most) refl h
written-small most o names written_param.Unit q h = subst (λ (z : Local × Param). nat_le (type_nodes z.1.of) most ≡ true) (some_of h) (is-small 1 most o)

acc-small : (a bare : Around) (params : List LambdaParam) (step : HeldStep) (scope : StepScope) (local : HeldLocal) → Stepping a bare params step scope → IsAcc bare step local → (w : World) (s : Scope) → Stands a w s → nat_le (type_nodes local.of) w.most ≡ true
acc-small a bare params step scope local h k w s stands =
    ap (nat_le (type_nodes local.of)) (most_is a w s stands)
    ∙ written-small 65536 (omega arith) (step_names (step_in step) s.names) step.acc.now (local_in local, param_in local) (k (step_names (step_in step) s.names) (bare-there a bare params step scope h w s stands).cons)

acc-fault : (a bare : Around) (st : Sites) (m : Mode) (f row : Con) (p q : Span) (y : ExpForm) (params : List LambdaParam) (x : Exp) (t : NormalType) (parts : List Part) (step : HeldStep) (scope : StepScope) (local : HeldLocal) → Stepping a bare params step scope → IsAcc bare step local → (w : World) (s : Scope) → Stands a w s →
    fold_types w s f row ≡ Some (t, parts) → (c : Fault) → BreaksAcc (names_at a) (env_in bare.scope.cons) step.acc.now local.of (at_row t (step_rest s.env)) c →
    Breaks (names_at a) w s st (e.Fold' f tt (its p (e.Lambda' params tt (its x.span x.form alone)) alone) tt (its q y alone) row) m c
acc-fault a bare st m f row p q y params x t parts step scope local h k w s stands g _ (rest_large l) =
    large_rest g (scope-is a bare params step scope local h k w s stands) (acc-small a bare params step scope local h k w s stands)
    (ap (nat_le (type_nodes (at_row t (step_rest s.env)))) (most_is a w s stands) ∙ is-large (type_nodes (at_row t (step_rest s.env))) 65536 l)
acc-fault a bare st m f row p q y params x t parts step scope local h k w s stands g c (acc_misplaced b) =
    bad_acc g h.form (ap (option_map (step_with s (step_names (step_in step) s.names))) (acc-there a bare params step scope local h k w s stands))
    (written-there (acc_at s step local).0.env (env_in bare.scope.cons) step.acc.now local.of c (like-there a bare params step scope local h w s stands) b)
acc-fault a bare st m f row p q y params x t parts step scope local h k w s stands g _ (acc_other may n) =
    other_acc g (scope-is a bare params step scope local h k w s stands) (may-there a bare params step scope local h k may w s stands) n

pub acc-told : (a bare : Around) (acc : WrittenParam) (of rest u : NormalType) (s' : Stop) → (IsWrittenType acc of → may_be_param (env_in bare.scope.cons) of ≡ true) → same_type of u ≡ false → u ≡ rest → StopIs (names_at a) (types_differ (names_at a) of u) s' →
    IfRefused {A = Unit {0}} (Err s') (λ r. bare.world ≡ a.world → Refuses (names_at a) (BreaksAcc (names_at a) (env_in bare.scope.cons) acc of rest) r)
acc-told a bare acc of rest u (stop.Refused r) may n h k = λ w. (types_differ (names_at a) of rest, acc_other may (ap (same_type of) (sym h) ∙ n), subst (λ z. TellsFault (names_at a) r (types_differ (names_at a) of z)) h k)
acc-told a bare acc of rest u stop.Memory may n h k = tt

pub acc-broken : (a bare : Around) (st : HeldSites) (params : List LambdaParam) (x : Exp) (t : NormalType) (step : HeldStep) (scope : StepScope) (local : HeldLocal) → Stepping a bare params step scope → IsAcc bare step local → (r : Refusal) →
    (bare.world ≡ a.world → Refuses (names_at a) (BreaksAcc (names_at a) (env_in bare.scope.cons) step.acc.now local.of (at_row t (step_rest (env_in a.scope.cons)))) r) → TellsStep a st (e.Lambda params x) t r
acc-broken a bare st params x t step scope local h k r b = λ w s m f row p q y parts stands g.
    let there : Refuses (names_at a) (BreaksAcc (names_at a) (env_in bare.scope.cons) step.acc.now local.of (at_row t (step_rest (env_in a.scope.cons)))) r = b h.there.world in
    as-lambda (names_at a) w s (sites_in st) m f row p q params x y r (broken-here (
      there.0,
      acc-fault a bare (sites_in st) m f row p q y params x t parts step scope local h k w s stands g there.0
          (subst (λ z. BreaksAcc (names_at a) (env_in bare.scope.cons) step.acc.now local.of (at_row t z) there.0) (sym (rest-there a w s stands)) there.1),
      there.2,
    ))

-- the type of the fold of the step's row is too large, which is wanted of its body
pub step-large : (a bare : Around) (st : HeldSites) (params : List LambdaParam) (x : Exp) (t : NormalType) (step : HeldStep) (scope : StepScope) (local : HeldLocal) → Stepping a bare params step scope → IsAcc bare step local →
    (r : Refusal) → IsLarge r × (most_nodes < type_nodes (at_row t (step_row (env_in a.scope.cons)))) → TellsStep a st (e.Lambda params x) t r
step-large a bare st params x t step scope local h k r l = λ w s m f row p q y parts stands g.
    as-lambda (names_at a) w s (sites_in st) m f row p q params x y r (broken-within (in_step_of g (scope-is a bare params step scope local h k w s stands))
    (broken-here (
      too_large,
      large_wanted (ap (nat_le (type_nodes (at_row t (step_row s.env)))) (most_is a w s stands)
          ∙ is-large (type_nodes (at_row t (step_row s.env))) 65536 (subst (λ z. most_nodes < type_nodes (at_row t z)) (sym (row-there a w s stands)) l.1)),
      l.0,
    )))

pub in-step : (a bare inner : Around) (st : HeldSites) (params : List LambdaParam) (x : Exp) (t wanted : NormalType) (step : HeldStep) (scope : StepScope) (local : HeldLocal) (own : List HeldLocal) → Stepping a bare params step scope → IsAcc bare step local → wanted ≡ at_row t (step_row (env_in a.scope.cons)) →
    own ≡ local ∷ [] → IsBehindAcc a scope own inner → (r : Refusal) → Tells inner st x.form (wants wanted) r → TellsStep a st (e.Lambda params x) t r
in-step a bare inner st params x t wanted step scope local own h k wd one i r g = λ w s m f row p q y parts stands j.
    as-lambda (names_at a) w s (sites_in st) m f row p q params x y r (broken-within (in_step_of j (scope-is a bare params step scope local h k w s stands))
    (subst (λ z. HasFault (names_at a) w (acc_at s step local).0 (sites_in st) x.form (wants z) r) (wd ∙ ap (at_row t) (sym (row-there a w s stands)))
    (told-there a inner i.world (g w (acc_at s step local).0 (inner-there a bare inner params step scope local own h one i w s stands)))))

pub somewhere-step : (a bare inner : Around) (params : List LambdaParam) (step : HeldStep) (scope : StepScope) (local : HeldLocal) (own : List HeldLocal) → Stepping a bare params step scope → own ≡ local ∷ [] → IsBehindAcc a scope own inner → StandsSomewhere a → StandsSomewhere inner
somewhere-step a bare inner params step scope local own h one i p = (p.0, (acc_at p.1 step local).0, inner-there a bare inner params step scope local own h one i p.0 p.1 p.2)

-- a step that is no lambda
not-lambda : (x : ExpForm) → ((params : List LambdaParam) (b : Exp) → x ≡ e.Lambda params b → ⊥) → is_lambda x ≡ false
not-lambda (e.Lambda' params _ (its p b alone)) h = absurd (h params (record { span = p; form = b }) (sym (lambda-plain params (record { span = p; form = b }))))
not-lambda _ h = refl

pub no-lambda : (a : Around) (st : HeldSites) (x : ExpForm) (t : NormalType) (s' : Stop) → ((params : List LambdaParam) (b : Exp) → x ≡ e.Lambda params b → ⊥) → ((names : List (List ℕ)) → StopIs names no_step s') → IfRefused {A = Unit {0}} (Err s') (TellsStep a st x t)
no-lambda a st x t (stop.Refused r) h k = λ w s m f row p q y parts stands g. broken-here (no_step, no_step_function (not-lambda x h), k (names_at a))
no-lambda a st x t stop.Memory h k = tt

-- a step that is one is told as such
pub step-as : (a : Around) (before after : HeldSites) (x y : ExpForm) (t : NormalType) (o : Param × HeldOut) → x ≡ y → GivesStep a before y t o after → GivesStep a before x t o after
step-as a before after x y t o h g = subst (λ z. GivesStep a before z t o after) (sym h) g

pub tells-step : (a : Around) (before : HeldSites) (x y : ExpForm) (t : NormalType) (r : Refusal) → x ≡ y → TellsStep a before y t r → TellsStep a before x t r
tells-step a before x y t r h g = subst (λ z. TellsStep a before z t r) (sym h) g
