use Rattle.code_cases.specs.Ready.{IsReadyFor}
use Rattle.code_cases.proofs.serving.serve.Given as goal

abbrev pub invariant-loop : goal.invariant-loop
invariant-loop l = IsReadyFor l.server l.keeper l.left
