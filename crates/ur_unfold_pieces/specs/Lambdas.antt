-- The names that a lambda takes from outside.
use Rattle.std.specs.Prelude.{List, ◌++◌}
use Rattle.ur_tree.specs.declared.exp.Exp.{Exp}
use Rattle.ur_tree.specs.declared.exp.Param.{Param}
use Rattle.ur_source.specs.Names.{Name, in_params, in_exp, fixed_count}

abbrev pub lambda_names : List Param → Exp → List Name
lambda_names params body = in_params params ++ in_exp (fixed_count params) body
