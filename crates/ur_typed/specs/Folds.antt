-- The rule of a fold, over the walks of its step and its start.
use Rattle.std.specs.Prelude.{ℕ, ◌&&◌, not, nat_le, Bool, false, List, [], ◌∷◌, Option, Some, None, option_map, option_and_then, bytes_eq}
use Rattle.ur_syntax.specs.declared.con.Con.{Con}
use Rattle.ur_syntax.specs.declared.con.ConForm.{ConForm, Row_of-CField, end_of-CField as end, more_of-CField as more}
use Rattle.ur_syntax.specs.declared.con.ConForm.TheVariants as con
use Rattle.ur_syntax.specs.declared.con.CField.TheVariants as con_field
use Rattle.ur_syntax.specs.declared.con.FieldName.TheVariants as field_name
use Rattle.ur_syntax.specs.declared.con.ConParam.TheVariants as con_param
use Rattle.ur_syntax.specs.declared.kind.Kind.TheVariants as kind
use Rattle.ur_syntax.specs.declared.exp.Param.{Param as WrittenParam}
use Rattle.ur_syntax.specs.declared.exp.LambdaParam.{LambdaParam}
use Rattle.ur_syntax.specs.declared.exp.LambdaParam.TheVariants as lambda_param
use Rattle.ur_rows.specs.declared.normal.Normal.{Normal}
use Rattle.ur_rows.specs.declared.normal.NormalType.{NormalType}
use Rattle.ur_rows.specs.declared.normal.Part.{Part}
use Rattle.ur_rows.specs.Nodes.{nodes}
use Rattle.ur_rows.specs.Normal.{nf, as_function}
use Rattle.ur_rows.specs.Put.{as_row}
use Rattle.ur_rows.specs.Types.{at_row}
use Rattle.ur_tree.specs.declared.exp.Param.{Param}
use Rattle.ur_tree.specs.Make as make
use Rattle.ur_tree.specs.Env.{row_is_plain}
use Rattle.ur_tree.specs.Typing.{step_rest, step_row, within_step}
use Rattle.ur_typed_rules.specs.Names.{Local, Names, with_con, with_local}
use Rattle.ur_typed_rules.specs.Scopes.{World, Scope, wants}
use Rattle.ur_typed_rules.specs.Tests.{same_type, is_row, is_param}
use Rattle.ur_typed.specs.Rules.{Sites, Out, Walk, gives, then_}
use Rattle.ur_typed_rules.specs.Rules.{if_so, param_out}

abbrev pub is_bare_field : {n : _} → List ℕ → Row_of-CField n → Bool
is_bare_field x (more (con_field.Bare (field_name.Variable y)) end) = bytes_eq x y
is_bare_field x _ = false

abbrev pub is_bare_row : List ℕ → ConForm → Bool
is_bare_row x (con.Row' _ fs) = is_bare_field x fs
is_bare_row x _ = false

abbrev pub is_variable : List ℕ → ConForm → Bool
is_variable x (con.Var y) = bytes_eq x y
is_variable x _ = false

abbrev pub names_within_step : List ℕ → List ℕ → List ℕ → Names → Names
names_within_step nm t rest names = with_con rest kind.Row (with_con t kind.Star (with_con nm kind.Name names))

-- the scope of the step of a fold, and its parameter
abbrev pub step_with : Scope → Names → Local × Param → Scope × Param
step_with s names p = (record { names = with_local p.0 names; env = within_step p.1 s.env }, p.1)

abbrev pub step_names_fit : List ℕ → List ℕ → List ℕ → Con → Con → Bool
step_names_fit nm t rest one other = not (bytes_eq nm t) && (not (bytes_eq nm rest) && (not (bytes_eq t rest) && (is_bare_row nm one.form && is_variable rest other.form)))

-- what is written of the step of a fold: the names of its three variables, and its parameter
pub record Step : Type 0 where
  pub nm : List ℕ
  pub t : List ℕ
  pub rest : List ℕ
  pub acc : WrittenParam

abbrev pub step_form : List LambdaParam → Option Step
step_form (lambda_param.Con (con_param.Kinded nm kind.Name) ∷ lambda_param.Con (con_param.Kinded t kind.Star) ∷ lambda_param.Con (con_param.Kinded rest kind.Row) ∷ lambda_param.Con (con_param.Disjoint one other) ∷ lambda_param.Typed acc ∷ []) =
    if_so (step_names_fit nm t rest one other) (Some (record { nm = nm; t = t; rest = rest; acc = acc }))
step_form _ = None

abbrev pub step_names : Step → Names → Names
step_names p names = names_within_step p.nm p.t p.rest names

abbrev pub step_by : World → Scope → Step → Option (Scope × Param)
step_by w s p = option_map (step_with s (step_names p s.names)) (param_out w.most (step_names p s.names) p.acc)

abbrev pub step_of : World → Scope → List LambdaParam → Option (Scope × Param)
step_of w s params = option_and_then (step_by w s) (step_form params)

-- the function and the row of a fold
abbrev pub fold_types : World → Scope → Con → Con → Option (NormalType × List Part)
fold_types w s f r =
    let fn : Normal = nf s.names.cons f in let n : Normal = nf s.names.cons r in
    if_so (nat_le (nodes fn) w.most && (nat_le (nodes n) w.most && (is_row s.env (as_row n) && row_is_plain (as_row n)))) (Some (as_function fn, as_row n))

abbrev pub step_fits : Scope → NormalType → Scope × Param → Bool
step_fits s of p = is_param p.0.env p.1 && same_type p.1.of (at_row of (step_rest s.env))

abbrev pub step_out : World → Scope → Sites → NormalType → List LambdaParam → Walk → Option (Param × Out)
step_out w s st of params b = option_and_then (λ p. if_so (step_fits s of p) (then_ (b p.0 st (wants (at_row of (step_row s.env)))) (λ o. Some (p.1, o)))) (step_of w s params)

abbrev pub fold_with : Scope → Sites → (NormalType → Option (Param × Out)) → Walk → NormalType × List Part → Option Out
fold_with s st step start t = option_and_then (λ p. then_ (start s p.1.sites (wants (at_row t.0 []))) (λ o. gives (at_row t.0 t.1) (make.folded t.0 p.0 p.1.exp o.exp t.1) o.sites)) (step t.0)

abbrev pub fold_out : World → Scope → Sites → Con → Con → (NormalType → Option (Param × Out)) → Walk → Option Out
fold_out w s st f r step start = option_and_then (fold_with s st step start) (fold_types w s f r)
