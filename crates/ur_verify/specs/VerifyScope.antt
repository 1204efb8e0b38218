-- The types of the variables in scope.
use Rattle.std.specs.Prelude.{List, ◌++◌}
use Rattle.ur_values.specs.declared.types.ValueType.{ValueType}
use Rattle.ur_verify.specs.declared.environment.Environment.{Environment}
use Rattle.ur_verify.specs.declared.environment.Environment.TheVariants as env

abbrev pub types_in : Environment → List ValueType
types_in (env.Parameters ts) = ts.now
types_in (env.Bound' ts _ rest) = ts.now ++ types_in rest
