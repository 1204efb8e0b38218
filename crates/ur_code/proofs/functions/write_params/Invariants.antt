-- The loop has written the parameters so far.
use Rattle.std.proofs.Common.{◌≡◌, ◌++◌, take}
use Rattle.ur_code.specs.Texts.{params_text}
use Rattle.ur_code.proofs.functions.write_params.Given as goal

abbrev pub invariant-loop-param : goal.invariant-loop-param
invariant-loop-param l = l.out ≡ l.initial.out ++ params_text l.names (take l.param-index l.params)
