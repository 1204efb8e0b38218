-- The step of a fold, read one parameter after the other.
use Rattle.std.proofs.Common.{◌≡◌, refl, ap, sym, ◌∙◌, ℕ, Bool, true, false, ◌&&◌, not, List, [], ◌∷◌, Option, Some, None, Err}
use Rattle.std.specs.Prelude.{bytes_eq}
use Rattle.ur_base.specs.Stopping.{IfRefused}
use Rattle.ur_base.specs.declared.refusal.Stop.{Stop}
use Rattle.ur_base.specs.declared.refusal.Stop.TheVariants as stop
use Rattle.ur_syntax.specs.declared.kind.Kind.TheVariants as kind
use Rattle.ur_syntax.specs.declared.con.Con.{Con}
use Rattle.ur_syntax.specs.declared.con.CField.{CField}
use Rattle.ur_syntax.specs.declared.con.CField.TheVariants as con_field
use Rattle.ur_syntax.specs.declared.con.FieldName.TheVariants as field_name
use Rattle.ur_syntax.specs.declared.con.ConForm.TheVariants as con
use Rattle.ur_syntax.specs.declared.con.ConParam.TheVariants as con_param
use Rattle.ur_syntax.specs.declared.exp.LambdaParam.{LambdaParam}
use Rattle.ur_syntax.specs.declared.exp.LambdaParam.TheVariants as lambda_param
use Rattle.ur_syntax.proofs.Shapes.{fields-made}
use Rattle.ur_typed_rules.specs.Faults.{TellsType}
use Rattle.ur_typed_rules.specs.Rules.{if_so}
use Rattle.ur_typed.specs.Faults.{no_step}
use Rattle.ur_typed.specs.Folds.{Step, is_bare_row, is_variable, step_form}
use Rattle.ur_check_scopes.specs.Views.{StopIs}
use Rattle.ur_check_cases.specs.declared.steps.Step.{Step as HeldStep}
use Rattle.ur_check_cases.specs.Steps.{one_bare, differ, acc_last, with_acc, behind_row, behind_type, behind_name, read_step, step_in}

-- ---- rows of one field

pub row-one : (x : List ℕ) (fs : List CField) → is_bare_row x (con.Row fs) ≡ one_bare x fs
row-one x [] = ap (is_bare_row x) (fields-made [])
row-one x (con_field.Bare (field_name.Variable y) ∷ []) = ap (is_bare_row x) (fields-made (con_field.Bare (field_name.Variable y) ∷ []))
row-one x (con_field.Bare (field_name.Literal y) ∷ []) = ap (is_bare_row x) (fields-made (con_field.Bare (field_name.Literal y) ∷ []))
row-one x (con_field.Given' y p c ∷ []) = ap (is_bare_row x) (fields-made (con_field.Given' y p c ∷ []))
row-one x (con_field.Bare (field_name.Variable y) ∷ g ∷ fs) = ap (is_bare_row x) (fields-made (con_field.Bare (field_name.Variable y) ∷ g ∷ fs))
row-one x (con_field.Bare (field_name.Literal y) ∷ g ∷ fs) = ap (is_bare_row x) (fields-made (con_field.Bare (field_name.Literal y) ∷ g ∷ fs))
row-one x (con_field.Given' y p c ∷ g ∷ fs) = ap (is_bare_row x) (fields-made (con_field.Given' y p c ∷ g ∷ fs))

-- ---- the parameters one after the other

-- five tests, however they are joined
five : {A : Type 0} (a b c d f : Bool) (x : A) → if_so ((a && (b && c)) && (d && f)) (Some x) ≡ if_so (a && (b && (c && (d && f)))) (Some x)
five true true true d f x = refl
five true true false d f x = refl
five true false c d f x = refl
five false b c d f x = refl

never : (b : Bool) → if_so {A = Step} b None ≡ None
never true = refl
never false = refl

off : (b : Bool) (o : Option Step) → if_so (b && false) o ≡ None
off true o = refl
off false o = refl

acc-read : (nm t rest : List ℕ) (one other : Con) (ps : List LambdaParam) →
    behind_row nm t rest (lambda_param.Con (con_param.Disjoint one other) ∷ ps)
    ≡ step_form (lambda_param.Con (con_param.Kinded nm kind.Name) ∷ lambda_param.Con (con_param.Kinded t kind.Star) ∷ lambda_param.Con (con_param.Kinded rest kind.Row) ∷ lambda_param.Con (con_param.Disjoint one other) ∷ ps)
acc-read nm t rest one other [] = never (differ nm t rest && (is_bare_row nm one.form && is_variable rest other.form))
acc-read nm t rest one other (lambda_param.Typed acc ∷ []) =
    five (not (bytes_eq nm t)) (not (bytes_eq nm rest)) (not (bytes_eq t rest)) (is_bare_row nm one.form) (is_variable rest other.form) (record { nm = nm; t = t; rest = rest; acc = acc })
acc-read nm t rest one other (lambda_param.Con p ∷ []) = never (differ nm t rest && (is_bare_row nm one.form && is_variable rest other.form))
acc-read nm t rest one other (lambda_param.Bare x ∷ []) = never (differ nm t rest && (is_bare_row nm one.form && is_variable rest other.form))
acc-read nm t rest one other (lambda_param.Typed acc ∷ q ∷ ps) = never (differ nm t rest && (is_bare_row nm one.form && is_variable rest other.form))
acc-read nm t rest one other (lambda_param.Con p ∷ q ∷ ps) = never (differ nm t rest && (is_bare_row nm one.form && is_variable rest other.form))
acc-read nm t rest one other (lambda_param.Bare x ∷ q ∷ ps) = never (differ nm t rest && (is_bare_row nm one.form && is_variable rest other.form))

row-read : (nm t rest : List ℕ) (ps : List LambdaParam) →
    behind_row nm t rest ps ≡ step_form (lambda_param.Con (con_param.Kinded nm kind.Name) ∷ lambda_param.Con (con_param.Kinded t kind.Star) ∷ lambda_param.Con (con_param.Kinded rest kind.Row) ∷ ps)
row-read nm t rest [] = refl
row-read nm t rest (lambda_param.Typed p ∷ ps) = off (differ nm t rest) (with_acc nm t rest (acc_last ps))
row-read nm t rest (lambda_param.Bare x ∷ ps) = off (differ nm t rest) (with_acc nm t rest (acc_last ps))
row-read nm t rest (lambda_param.Con (con_param.Kinded x k) ∷ ps) = off (differ nm t rest) (with_acc nm t rest (acc_last ps))
row-read nm t rest (lambda_param.Con (con_param.Disjoint one other) ∷ ps) = acc-read nm t rest one other ps

type-read : (nm t : List ℕ) (ps : List LambdaParam) → behind_type nm t ps ≡ step_form (lambda_param.Con (con_param.Kinded nm kind.Name) ∷ lambda_param.Con (con_param.Kinded t kind.Star) ∷ ps)
type-read nm t [] = refl
type-read nm t (lambda_param.Typed p ∷ ps) = refl
type-read nm t (lambda_param.Bare x ∷ ps) = refl
type-read nm t (lambda_param.Con (con_param.Disjoint one other) ∷ ps) = refl
type-read nm t (lambda_param.Con (con_param.Kinded x kind.Row) ∷ ps) = row-read nm t x ps
type-read nm t (lambda_param.Con (con_param.Kinded x kind.Star) ∷ ps) = refl
type-read nm t (lambda_param.Con (con_param.Kinded x kind.Name) ∷ ps) = refl
type-read nm t (lambda_param.Con (con_param.Kinded x (kind.Arrow' s a r b)) ∷ ps) = refl

name-read : (nm : List ℕ) (ps : List LambdaParam) → behind_name nm ps ≡ step_form (lambda_param.Con (con_param.Kinded nm kind.Name) ∷ ps)
name-read nm [] = refl
name-read nm (lambda_param.Typed p ∷ ps) = refl
name-read nm (lambda_param.Bare x ∷ ps) = refl
name-read nm (lambda_param.Con (con_param.Disjoint one other) ∷ ps) = refl
name-read nm (lambda_param.Con (con_param.Kinded x kind.Star) ∷ ps) = type-read nm x ps
name-read nm (lambda_param.Con (con_param.Kinded x kind.Row) ∷ ps) = refl
name-read nm (lambda_param.Con (con_param.Kinded x kind.Name) ∷ ps) = refl
name-read nm (lambda_param.Con (con_param.Kinded x (kind.Arrow' s a r b)) ∷ ps) = refl

pub form-read : (ps : List LambdaParam) → read_step ps ≡ step_form ps
form-read [] = refl
form-read (lambda_param.Typed p ∷ ps) = refl
form-read (lambda_param.Bare x ∷ ps) = refl
form-read (lambda_param.Con (con_param.Disjoint one other) ∷ ps) = refl
form-read (lambda_param.Con (con_param.Kinded x kind.Name) ∷ ps) = name-read x ps
form-read (lambda_param.Con (con_param.Kinded x kind.Star) ∷ ps) = refl
form-read (lambda_param.Con (con_param.Kinded x kind.Row) ∷ ps) = refl
form-read (lambda_param.Con (con_param.Kinded x (kind.Arrow' s a r b)) ∷ ps) = refl

-- ---- what is answered

pub step-found : (ps : List LambdaParam) (p : HeldStep) → Some (step_in p) ≡ read_step ps → step_form ps ≡ Some (step_in p)
step-found ps p h = sym (form-read ps) ∙ sym h

pub step-told : (ps : List LambdaParam) (s' : Stop) → None ≡ read_step ps → ((names : List (List ℕ)) → StopIs names no_step s') → IfRefused {A = Unit {0}} (Err s') (λ r. (step_form ps ≡ None) × ((names : List (List ℕ)) → TellsType names r no_step))
step-told ps (stop.Refused r) h t = (sym (form-read ps) ∙ sym h, t)
step-told ps stop.Memory h t = tt
