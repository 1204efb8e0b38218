-- The step of a fold, read one parameter after the other, and what breaks the rules of a fold.
use Rattle.std.specs.Prelude.{ℕ, ◌≡◌, ◌&&◌, not, ⊤, Bool, true, false, List, [], ◌∷◌, Option, Some, None, option_and_then, bytes_eq}
use Rattle.ur_base.specs.declared.refusal.Refusal.{Refusal}
use Rattle.ur_base.specs.declared.refusal.Stop.{Stop}
use Rattle.ur_base.specs.declared.refusal.Stop.TheVariants as stop
use Rattle.ur_syntax.specs.declared.kind.Kind.{Kind}
use Rattle.ur_syntax.specs.declared.kind.Kind.TheVariants as kind
use Rattle.ur_syntax.specs.declared.con.Con.{Con}
use Rattle.ur_syntax.specs.declared.con.CField.{CField}
use Rattle.ur_syntax.specs.declared.con.CField.TheVariants as con_field
use Rattle.ur_syntax.specs.declared.con.FieldName.{FieldName}
use Rattle.ur_syntax.specs.declared.con.FieldName.TheVariants as field_name
use Rattle.ur_syntax.specs.declared.con.ConParam.{ConParam}
use Rattle.ur_syntax.specs.declared.con.ConParam.TheVariants as con_param
use Rattle.ur_syntax.specs.declared.exp.LambdaParam.{LambdaParam}
use Rattle.ur_syntax.specs.declared.exp.LambdaParam.TheVariants as lambda_param
use Rattle.ur_syntax.specs.declared.exp.Param.{Param as WrittenParam}
use Rattle.ur_rows_reduce.specs.declared.count.Halt.{Halt}
use Rattle.ur_rows_reduce.specs.declared.count.Halt.TheVariants as halt
use Rattle.ur_check_scopes.specs.declared.around.Around.{Around}
use Rattle.ur_check_scopes.specs.Views.{Stands, Refuses, IsLarge}
use Rattle.ur_typed_rules.specs.Rules.{if_so}
use Rattle.ur_typed_rules.specs.Scopes.{World, Scope}
use Rattle.ur_typed.specs.Faults.{BreaksFoldRow}
use Rattle.ur_typed.specs.Folds.{Step, is_bare_row, is_variable}
use Rattle.ur_check_cases.specs.declared.steps.Step.{Step as HeldStep}

-- ---- parameters

abbrev pub is_name : Kind → Bool
is_name kind.Name = true
is_name _ = false

abbrev pub is_star : Kind → Bool
is_star kind.Star = true
is_star _ = false

abbrev pub is_row : Kind → Bool
is_row kind.Row = true
is_row _ = false

-- the variable of a parameter whose kind passes
abbrev pub con_of : (Kind → Bool) → ConParam → Option (List ℕ)
con_of test (con_param.Kinded x k) = if_so (test k) (Some x)
con_of test (con_param.Disjoint a b) = None

abbrev pub variable_of : (Kind → Bool) → LambdaParam → Option (List ℕ)
variable_of test (lambda_param.Con p) = con_of test p
variable_of test (lambda_param.Typed p) = None
variable_of test (lambda_param.Bare x) = None

abbrev pub is_field_variable : List ℕ → FieldName → Bool
is_field_variable x (field_name.Variable y) = bytes_eq x y
is_field_variable x (field_name.Literal y) = false

-- whether a field is the bare variable
abbrev pub is_bare : List ℕ → CField → Bool
is_bare x (con_field.Bare f) = is_field_variable x f
is_bare x _ = false

-- whether it is the only field
abbrev pub one_bare : List ℕ → List CField → Bool
one_bare x (f ∷ []) = is_bare x f
one_bare x _ = false

-- the name is apart from the rest
abbrev pub con_apart : List ℕ → List ℕ → ConParam → Bool
con_apart nm rest (con_param.Disjoint a b) = is_bare_row nm a.form && is_variable rest b.form
con_apart nm rest (con_param.Kinded x k) = false

abbrev pub is_apart : List ℕ → List ℕ → LambdaParam → Bool
is_apart nm rest (lambda_param.Con p) = con_apart nm rest p
is_apart nm rest (lambda_param.Typed p) = false
is_apart nm rest (lambda_param.Bare x) = false

abbrev pub written_of : LambdaParam → Option WrittenParam
written_of (lambda_param.Typed p) = Some p
written_of (lambda_param.Con p) = None
written_of (lambda_param.Bare x) = None

-- ---- the parameters one after the other

abbrev pub differ : List ℕ → List ℕ → List ℕ → Bool
differ nm t rest = not (bytes_eq nm t) && (not (bytes_eq nm rest) && not (bytes_eq t rest))

abbrev pub acc_last : List LambdaParam → Option WrittenParam
acc_last (p ∷ []) = written_of p
acc_last _ = None

abbrev pub with_acc : List ℕ → List ℕ → List ℕ → Option WrittenParam → Option Step
with_acc nm t rest None = None
with_acc nm t rest (Some acc) = Some (record { nm = nm; t = t; rest = rest; acc = acc })

abbrev pub behind_row : List ℕ → List ℕ → List ℕ → List LambdaParam → Option Step
behind_row nm t rest [] = None
behind_row nm t rest (p ∷ ps) = if_so (differ nm t rest && is_apart nm rest p) (with_acc nm t rest (acc_last ps))

abbrev pub behind_type : List ℕ → List ℕ → List LambdaParam → Option Step
behind_type nm t [] = None
behind_type nm t (p ∷ ps) = option_and_then (λ rest. behind_row nm t rest ps) (variable_of is_row p)

abbrev pub behind_name : List ℕ → List LambdaParam → Option Step
behind_name nm [] = None
behind_name nm (p ∷ ps) = option_and_then (λ t. behind_type nm t ps) (variable_of is_star p)

abbrev pub read_step : List LambdaParam → Option Step
read_step [] = None
read_step (p ∷ ps) = option_and_then (λ nm. behind_name nm ps) (variable_of is_name p)

-- what the code holds of it
abbrev pub step_in : HeldStep → Step
step_in s = record { nm = s.nm.now; t = s.t.now; rest = s.rest.now; acc = s.acc.now }

-- ---- types at rows

-- what halts is told as too large
abbrev pub TellsLarge : Halt → Stop → Type 0
TellsLarge h (stop.Refused r) = (h ≡ halt.TooLarge) × IsLarge r
TellsLarge h stop.Memory = ⊤

-- what is written is no row, or none that may be folded over
abbrev pub TellsFoldRow : Around → Con → Refusal → Type 0
TellsFoldRow a c r = (w : World) (s : Scope) → Stands a w s → Refuses a.world.now.datatype_names (BreaksFoldRow a.world.now.datatype_names w s c) r
