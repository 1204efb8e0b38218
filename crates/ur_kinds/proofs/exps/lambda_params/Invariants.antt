use Rattle.std.proofs.Common.{◌≡◌, ◌++◌, take, flat_map}
use Rattle.ur_kinds.specs.Acts.{acts}
use Rattle.ur_kinds.specs.Exps.{in_lambda_param}
use Rattle.ur_kinds.proofs.exps.lambda_params.Given as goal

abbrev pub invariant-loop-p : goal.invariant-loop-p
invariant-loop-p l = acts l.out ≡ acts l.initial.out ++ flat_map (in_lambda_param l.span) (take l.p-index l.params)
