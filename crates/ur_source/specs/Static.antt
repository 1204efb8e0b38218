-- Static expressions: what they are when they are closed.
use Rattle.std.specs.Prelude.{ℕ, Bool, true, false, not, ◌||◌, List, [], ◌∷◌, ◌++◌, map, reverse, Option, Some, None, option_map, option_and_then, unwrap_or, slice_get}
use Rattle.ur_base.specs.declared.names.Name.{Name}
use Rattle.ur_values.specs.declared.value.Value.TheVariants as v
use Rattle.ur_terms.specs.Values.{with_field, fields_together, field_at, without_field}
use Rattle.ur_rows.specs.declared.normal.Normal.TheVariants as normal
use Rattle.ur_rows.specs.Put.{instance}
use Rattle.ur_rows.specs.Made.{unit}
use Rattle.ur_tree.specs.declared.exp.Param.{Param}
use Rattle.ur_tree.specs.declared.exp.Binary.TheVariants as binary
use Rattle.ur_tree.specs.declared.exp.Exp.{Exp, Row_of-Exp, end_of-Exp, more_of-Exp, Row_of-FieldExp, end_of-FieldExp, more_of-FieldExp}
use Rattle.ur_tree.specs.declared.exp.Exp.TheVariants as x
use Rattle.ur_tree.specs.declared.closed.Static.{Static, Static-F, out-Static}
use Rattle.ur_tree.specs.declared.closed.Static.TheVariants as st
use Rattle.ur_tree.specs.declared.closed.Static.TheOpen as open_static
use Rattle.ur_tree.specs.declared.closed.StaticField.{StaticField}
use Rattle.ur_tree.specs.declared.typed.ModuleVal.{ModuleVal}
use Rattle.ur_source.specs.Reading.{Names, Cons, label_number, fold_steps}
use Rattle.ur_source.specs.Names.{in_params, in_exp, fixed_count, is_con, is_fixed, kept}

-- ---- records of static expressions

abbrev pub StaticFields : Type 0
StaticFields = List (Name × Static)

abbrev pub static_field : Name × Static → StaticField
static_field f = record { name = f.0; of = f.1 }

abbrev pub static_record : StaticFields → Static
static_record fs = st.Record (map static_field fs)

abbrev pub open_static_fields : Static-F Static StaticField → Option StaticFields
open_static_fields (open_static.Record fs) = Some (map (λ f. (f.name, f.of)) fs)
open_static_fields _ = None

abbrev pub as_static_fields : Static → Option StaticFields
as_static_fields s = open_static_fields (out-Static s)

abbrev pub static_at : Name → StaticFields → Option Static
static_at = field_at

abbrev pub on_two : {A B C : Type 0} → (A → B → Option C) → Option A → Option B → Option C
on_two f (Some a) (Some b) = f a b
on_two f _ _ = None

abbrev pub static_project : Option Name → Option Static → Option Static
static_project = on_two (λ n s. option_and_then (static_at n) (as_static_fields s))

abbrev pub static_cut : Option Name → Option Static → Option Static
static_cut = on_two (λ n s. option_map (λ fs. static_record (without_field n fs)) (as_static_fields s))

abbrev pub static_join : Option Static → Option Static → Option Static
static_join = on_two (λ a b. on_two (λ fs gs. Some (static_record (fields_together fs gs))) (as_static_fields a) (as_static_fields b))

abbrev pub static_with : Option Name → Option Static → Option StaticFields → Option StaticFields
static_with n s rest = on_two (λ k t. option_map (with_field (k, t)) rest) n s

-- ---- closing

-- A lambda with what its free names stand for.
abbrev pub closed_lambda : Cons → List Static → List Param → Exp → Static
closed_lambda cons fixed params body =
    let names = in_params params ++ in_exp (fixed_count params) body in
    st.Lambda params body (kept is_con names (normal.Type unit) 0 cons) (kept is_fixed names (static_record []) 0 fixed)

-- the steps of a function fold, the last name's first
abbrev pub static_steps : (Cons → Static → Option Static) → List Cons → Option Static → Option Static
static_steps step [] acc = acc
static_steps step (k ∷ ks) acc = static_steps step ks (option_and_then (step k) acc)

abbrev pub static_fold : (Cons → Static → Option Static) → Option (List Cons) → Option Static → Option Static
static_fold step None start = None
static_fold step (Some ks) start = static_steps step (reverse ks) start

abbrev pub if_fixed : Bool → Option Static → Option Static
if_fixed true s = s
if_fixed false s = None

-- What a static expression is, under closed constructors and static expressions; none where it is not static.
-- `vals` are what the modules' `val`s are.
abbrev mutual
  pub static_of : Names → List Static → Cons → List Static → Exp → Option Static
  static_of names vals cons fixed (x.Int i) = Some (st.Literal (v.Int i))
  static_of names vals cons fixed (x.Str s) = Some (st.Literal (v.Str s))
  static_of names vals cons fixed (x.Bool b) = Some (st.Literal (v.Bool b))
  static_of names vals cons fixed x.Unit = Some (static_record [])
  static_of names vals cons fixed (x.Fixed i) = slice_get fixed i
  static_of names vals cons fixed (x.Val k) = slice_get vals k
  static_of names vals cons fixed (x.Function f args) = Some (st.Function f (map (instance cons) args))
  static_of names vals cons fixed (x.Lambda' params _ (more_of-Exp body end_of-Exp)) = Some (closed_lambda cons fixed params body)
  static_of names vals cons fixed (x.Record' _ fields) = option_map static_record (statics_of names vals cons fixed fields)
  static_of names vals cons fixed (x.Project' _ e l) = static_project (label_number names cons l) (one_static names vals cons fixed e)
  static_of names vals cons fixed (x.Cut' _ e l) = static_cut (label_number names cons l) (one_static names vals cons fixed e)
  static_of names vals cons fixed (x.Binary' binary.Join _ a _ b) =
      static_join (one_static names vals cons fixed a) (one_static names vals cons fixed b)
  static_of names vals cons fixed (x.Fold' of acc _ step _ start row) =
      if_fixed acc.fixed (static_fold (λ k s. one_static names vals (cons ++ k) (s ∷ fixed) step) (fold_steps cons row) (one_static names vals cons fixed start))
  static_of names vals cons fixed _ = None

  pub one_static : Names → List Static → Cons → List Static → {m : _} → Row_of-Exp m → Option Static
  one_static names vals cons fixed end_of-Exp = None
  one_static names vals cons fixed (more_of-Exp e rest) = static_of names vals cons fixed e

  pub statics_of : Names → List Static → Cons → List Static → {m : _} → Row_of-FieldExp m → Option StaticFields
  statics_of names vals cons fixed end_of-FieldExp = Some []
  statics_of names vals cons fixed (more_of-FieldExp l e rest) =
      static_with (label_number names cons l) (static_of names vals cons fixed e) (statics_of names vals cons fixed rest)

-- Whether a static parameter, the name of a module's `val`, or what is no value (a lambda, a function with parameters, a
-- function fold) stands in a static expression. `is_constant` tells which functions have no parameters.
abbrev mutual
  pub names_static : (ℕ → Bool) → Exp → Bool
  names_static is_constant (x.Fixed i) = true
  names_static is_constant (x.Val k) = true
  names_static is_constant (x.Function f args) = not (is_constant f)
  names_static is_constant (x.Lambda' params _ body) = true
  names_static is_constant (x.Fold' of acc _ step _ start row) = true
  names_static is_constant (x.Record' _ fields) = some_names_static is_constant fields
  names_static is_constant (x.Project' _ e l) = one_names_static is_constant e
  names_static is_constant (x.Cut' _ e l) = one_names_static is_constant e
  names_static is_constant (x.Binary' op _ a _ b) = one_names_static is_constant a || one_names_static is_constant b
  names_static is_constant _ = false

  pub one_names_static : (ℕ → Bool) → {m : _} → Row_of-Exp m → Bool
  one_names_static is_constant end_of-Exp = false
  one_names_static is_constant (more_of-Exp e rest) = names_static is_constant e

  pub some_names_static : (ℕ → Bool) → {m : _} → Row_of-FieldExp m → Bool
  some_names_static is_constant end_of-FieldExp = false
  some_names_static is_constant (more_of-FieldExp l e rest) = names_static is_constant e || some_names_static is_constant rest

-- what the modules' `val`s are, each under those before it; one that is not static holds its place
abbrev pub vals_after : Names → List Static → List ModuleVal → List Static
vals_after names done [] = done
vals_after names done (d ∷ ds) = vals_after names (done ++ unwrap_or (static_of names done [] [] d.body) (static_record []) ∷ []) ds
