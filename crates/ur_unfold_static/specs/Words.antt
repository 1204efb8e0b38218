-- Whether what is sought is among the names in a part of the source.
use Rattle.std.specs.Prelude.{ℕ, Bool, List, Option, flat_map, slice_get}
use Rattle.ur_rows.specs.declared.normal.Label.{Label}
use Rattle.ur_rows.specs.declared.normal.NormalType.{NormalType}
use Rattle.ur_rows.specs.declared.normal.Part.{Part}
use Rattle.ur_rows.specs.declared.normal.Var.{Var}
use Rattle.ur_rows.specs.declared.normal.Normal.{Normal}
use Rattle.ur_tree.specs.declared.exp.Param.{Param}
use Rattle.ur_tree.specs.declared.exp.Exp.{Exp}
use Rattle.ur_tree.specs.declared.exp.Branch.{Branch}
use Rattle.ur_tree.specs.declared.exp.FieldExp.{FieldExp}
use Rattle.ur_tree.specs.declared.exp.Markup.{Markup}
use Rattle.ur_tree.specs.declared.typed.Function.{Function}
use Rattle.ur_source.specs.Names.{in_var, in_label, in_type, in_row, in_part, in_con, in_params, in_exp, in_markup, outer}
use Rattle.ur_source.specs.Items.{is_constant}
use Rattle.ur_source.specs.Static.{names_static}
use Rattle.ur_unfold_static.specs.declared.sought.Sought.{Sought}
use Rattle.ur_unfold_static.specs.Sought.{is_among}
use Rattle.ur_unfold_static.specs.Exps.{in_optional, in_field, in_fields, in_branches, some_field_names}

-- ---- in constructors

unfoldable pub var_names : Sought → Var → Bool
var_names of v = is_among of (in_var v)

unfoldable pub label_names : Sought → Label → Bool
label_names of l = is_among of (in_label l)

unfoldable pub type_names : Sought → NormalType → Bool
type_names of t = is_among of (in_type t)

unfoldable pub part_names : Sought → Part → Bool
part_names of p = is_among of (in_part p)

unfoldable pub row_names : Sought → List Part → Bool
row_names of r = is_among of (in_row r)

unfoldable pub con_names : Sought → Normal → Bool
con_names of c = is_among of (in_con c)

unfoldable pub cons_name : Sought → List Normal → Bool
cons_name of cs = is_among of (flat_map in_con cs)

unfoldable pub params_name : Sought → List Param → Bool
params_name of ps = is_among of (in_params ps)

-- ---- in expressions, so many static names being bound around them

unfoldable pub place_names : Sought → ℕ → ℕ → Bool
place_names of d i = is_among of (outer d i)

unfoldable pub exp_names : Sought → ℕ → Exp → Bool
exp_names of d e = is_among of (in_exp d e)

unfoldable pub exps_name : Sought → ℕ → List Exp → Bool
exps_name of d es = is_among of (flat_map (in_exp d) es)

unfoldable pub optional_names : Sought → ℕ → Option Exp → Bool
optional_names of d e = is_among of (in_optional d e)

unfoldable pub field_names : Sought → ℕ → FieldExp → Bool
field_names of d f = is_among of (in_field d f)

unfoldable pub fields_name : Sought → ℕ → List FieldExp → Bool
fields_name of d fs = is_among of (in_fields d fs)

unfoldable pub branches_name : Sought → ℕ → List Branch → Bool
branches_name of d bs = is_among of (in_branches d bs)

unfoldable pub part_of_xml_names : Sought → ℕ → Markup → Bool
part_of_xml_names of d p = is_among of (in_markup d p)

unfoldable pub xml_names : Sought → ℕ → List Markup → Bool
xml_names of d ps = is_among of (flat_map (in_markup d) ps)

-- ---- what is computed statically

-- whether there is a function with this number that has no parameters
unfoldable pub constant_at : List Function → ℕ → Bool
constant_at functions k = is_constant (slice_get functions k)

-- whether what stands for a value is computed statically
unfoldable pub is_computed : List Function → Exp → Bool
is_computed functions e = names_static (λ k. is_constant (slice_get functions k)) e

unfoldable pub is_one_computed : List Function → List FieldExp → Bool
is_one_computed functions fs = some_field_names (λ k. is_constant (slice_get functions k)) fs
