-- The parameters of a lambda, place by place.
use Rattle.std.specs.Prelude.{◌≡◌, ℕ, true, List, [], ◌∷◌, Some, slice_get, ⊤}
use Rattle.ur_syntax.specs.declared.exp.LambdaParam.{LambdaParam}
use Rattle.ur_syntax.specs.declared.exp.LambdaParam.TheVariants as lambda_param
use Rattle.ur_syntax.specs.declared.exp.Param.{Param as WrittenParam}
use Rattle.ur_syntax.specs.declared.exp.Param.TheVariants as written_param
use Rattle.ur_rows.specs.declared.normal.NormalType.{NormalType}
use Rattle.ur_rows.specs.Made.{unit}
use Rattle.ur_tree.specs.declared.exp.Param.{Param}
use Rattle.ur_tree.specs.Env.{Env}
use Rattle.ur_typed_rules.specs.Faults.{Fault}
use Rattle.ur_typed_rules.specs.Rules.{may_be_param}
use Rattle.ur_typed_rules.specs.Arguments.{BreaksLambdaParam}
use Rattle.ur_check_scopes.specs.declared.locals.Local.{Local}

-- the type of `()` is unit
abbrev pub IsWrittenType : WrittenParam → NormalType → Type 0
IsWrittenType (written_param.Value x c) t = ⊤
IsWrittenType written_param.Unit t = t ≡ unit

-- the type of a parameter of a lambda, which has one where its type is written
abbrev pub IsLambdaType : LambdaParam → NormalType → Type 0
IsLambdaType (lambda_param.Typed p) t = IsWrittenType p t
IsLambdaType _ t = ⊥

-- the type of the local at a place may be that of the parameter
abbrev pub MayBeAt : Env → LambdaParam → List Local → ℕ → Type 0
MayBeAt env p locals k = (l : Local) → slice_get locals k ≡ Some l → IsLambdaType p l.of → may_be_param env l.of ≡ true

-- it may not
pub data BreaksAt (env : Env) (p : LambdaParam) (locals : List Local) (k : ℕ) : Fault → Type 0 where
  breaks_local : (l : Local) {f : Fault} → slice_get locals k ≡ Some l → BreaksLambdaParam env p l.of f → BreaksAt env p locals k f

-- each type may be that of its parameter
abbrev pub MayBeParams : Env → List LambdaParam → List Param → Type 0
MayBeParams env [] qs = ⊤
MayBeParams env (p ∷ ps) [] = ⊤
MayBeParams env (p ∷ ps) (q ∷ qs) = (IsLambdaType p q.of → may_be_param env q.of ≡ true) × MayBeParams env ps qs

-- some type may not
pub data BreaksParameters (env : Env) : List LambdaParam → List Param → Fault → Type 0 where
  this_parameter : {p : LambdaParam} {ps : List LambdaParam} {q : Param} {qs : List Param} {f : Fault} → BreaksLambdaParam env p q.of f → BreaksParameters env (p ∷ ps) (q ∷ qs) f
  later_parameter : {p : LambdaParam} {ps : List LambdaParam} {q : Param} {qs : List Param} {f : Fault} → BreaksParameters env ps qs f → BreaksParameters env (p ∷ ps) (q ∷ qs) f
