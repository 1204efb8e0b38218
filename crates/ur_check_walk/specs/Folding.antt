-- What the functions of a fold promise: its step, and its parameter.
use Rattle.std.specs.Prelude.{◌≡◌, ◌<◌, ◌++◌, ℕ, true, false, List, Some, map}
use Rattle.ur_base.specs.declared.refusal.Refusal.{Refusal}
use Rattle.ur_base.specs.declared.refusal.Span.{Span}
use Rattle.ur_syntax.specs.declared.con.Con.{Con}
use Rattle.ur_syntax.specs.declared.exp.Param.{Param as WrittenParam}
use Rattle.ur_syntax.specs.declared.exp.ExpForm.{ExpForm, end_of-Exp as alone, more_of-Exp as its}
use Rattle.ur_syntax.specs.declared.exp.ExpForm.TheVariants as e
use Rattle.ur_rows.specs.declared.normal.NormalType.{NormalType}
use Rattle.ur_rows.specs.declared.normal.Part.{Part}
use Rattle.ur_rows.specs.Nodes.{type_nodes, most_nodes}
use Rattle.ur_tree.specs.declared.exp.Param.{Param}
use Rattle.ur_tree.specs.Env.{Env}
use Rattle.ur_typed_rules.specs.Scopes.{World, Scope, Mode}
use Rattle.ur_typed_rules.specs.Tests.{same_type}
use Rattle.ur_typed_rules.specs.Faults.{Fault, too_large, types_differ}
use Rattle.ur_typed_rules.specs.Arguments.{BreaksWritten}
use Rattle.ur_typed.specs.Folds.{fold_types}
use Rattle.ur_typed.specs.Walking.{step_walk}
use Rattle.ur_typed.specs.Causes.{HasFault}
use Rattle.ur_check_scopes.specs.declared.around.Around.{Around}
use Rattle.ur_check_scopes.specs.Views.{Stands, local_in, of_variables, of_fixed, locals_in, values_in, fixed_in}
use Rattle.ur_check_scopes.specs.declared.locals.Local.{Local as HeldLocal}
use Rattle.ur_check_scopes.specs.declared.locals.Locals.{Locals}
use Rattle.ur_syntax.specs.declared.con.ConEnv.{ConEnv}
use Rattle.ur_rows_normal.specs.Preparing.{Reads, Covers}
use Rattle.ur_check_cases.specs.declared.scopes.StepScope.{StepScope}
use Rattle.ur_check_scopes.specs.Params.{IsWrittenType}
use Rattle.ur_typed_rules.specs.Rules.{may_be_param}
use Rattle.ur_check_rules.specs.declared.out.Out.{Out as HeldOut}
use Rattle.ur_check_rules.specs.declared.out.Sites.{Sites as HeldSites}
use Rattle.ur_check_rules.specs.Views.{sites_in, out_in}

-- the step of a fold with this function gives its parameter and its body, where the code stands
abbrev pub GivesStep : Around → HeldSites → ExpForm → NormalType → Param × HeldOut → HeldSites → Type 0
GivesStep a before x t o after = (w : World) (s : Scope) (p : Span) → Stands a w s → step_walk w (its p x alone) s (sites_in before) t ≡ Some (o.0, out_in o.1 after)

-- the refusal tells a fault of each fold that has this function and this step
abbrev pub TellsStep : Around → HeldSites → ExpForm → NormalType → Refusal → Type 0
TellsStep a before x t r = (w : World) (s : Scope) (m : Mode) (f row : Con) (p q : Span) (start : ExpForm) (parts : List Part) → Stands a w s → fold_types w s f row ≡ Some (t, parts) →
    HasFault a.world.now.datatype_names w s (sites_in before) (e.Fold' f tt (its p x alone) tt (its q start alone) row) m r

-- the parameter of the step, of this type, may not be one, or has another type than the fold of the rest, which may be too large
pub data BreaksAcc (names : List (List ℕ)) (bare : Env) (acc : WrittenParam) (of rest : NormalType) : Fault → Type 0 where
  rest_large : most_nodes < type_nodes rest → BreaksAcc names bare acc of rest too_large
  acc_misplaced : {f : Fault} → BreaksWritten bare acc of f → BreaksAcc names bare acc of rest f
  acc_other : (IsWrittenType acc of → may_be_param bare of ≡ true) → same_type of rest ≡ false → BreaksAcc names bare acc of rest (types_differ names of rest)

-- The second place is within the step of a fold whose constructors are these, with these names, which stands in the first one.
pub record IsInStep (a : Around) (x : StepScope) (ls : Locals) (i : Around) : Type 0 where
  pub world : i.world ≡ a.world
  pub names : (env : ConEnv) → Covers x.names a.scope.cons.names env → Reads i.scope.cons.names env
  pub kinds : i.scope.cons.kinds.now ≡ x.kinds
  pub known : i.scope.cons.known.now ≡ x.known
  pub locals : i.scope.locals ≡ ls
  pub levels : i.levels ≡ a.levels

-- The second place is within such a step, behind its parameter.
pub record IsBehindAcc (a : Around) (x : StepScope) (own : List HeldLocal) (i : Around) : Type 0 where
  pub world : i.world ≡ a.world
  pub cons : (env : ConEnv) → Covers x.names a.scope.cons.names env → Reads i.scope.cons.names env
  pub kinds : i.scope.cons.kinds.now ≡ x.kinds
  pub known : i.scope.cons.known.now ≡ x.known
  pub names : locals_in i.scope.locals ≡ map local_in own ++ locals_in a.scope.locals
  pub values : values_in i.scope.locals ≡ of_variables own ++ values_in a.scope.locals
  pub fixed : fixed_in i.scope.locals ≡ of_fixed own ++ fixed_in a.scope.locals
  pub levels : i.levels ≡ a.levels
