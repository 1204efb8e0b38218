-- The names in fields, branches and an expression that may be there, as lists.
use Rattle.std.specs.Prelude.{ℕ, Bool, false, ◌||◌, List, [], ◌∷◌, ◌++◌, flat_map, Option, Some, None}
use Rattle.ur_tree.specs.declared.exp.Exp.{Exp}
use Rattle.ur_tree.specs.declared.exp.Branch.{Branch}
use Rattle.ur_tree.specs.declared.exp.FieldExp.{FieldExp}
use Rattle.ur_source.specs.Names.{Name, in_exp, in_label}
use Rattle.ur_source.specs.Static.{names_static}

abbrev pub in_optional : ℕ → Option Exp → List Name
in_optional d None = []
in_optional d (Some e) = in_exp d e

abbrev pub in_field : ℕ → FieldExp → List Name
in_field d f = in_label f.name ++ in_exp d f.of

abbrev pub in_fields : ℕ → List FieldExp → List Name
in_fields d = flat_map (in_field d)

abbrev pub in_branches : ℕ → List Branch → List Name
in_branches d = flat_map (λ b. in_exp d b.body)

abbrev pub some_field_names : (ℕ → Bool) → List FieldExp → Bool
some_field_names is_constant [] = false
some_field_names is_constant (f ∷ fs) = names_static is_constant f.of || some_field_names is_constant fs
