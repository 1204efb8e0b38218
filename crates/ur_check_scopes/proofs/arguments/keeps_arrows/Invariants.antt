use Rattle.std.proofs.Common.{◌≡◌, drop}
use Rattle.ur_tree.specs.Typing.{keeps_arrows}
use Rattle.ur_check_scopes.proofs.arguments.keeps_arrows.Given as goal

abbrev pub invariant-loop-i : goal.invariant-loop-i
invariant-loop-i l = keeps_arrows l.args (drop l.i l.params) ≡ keeps_arrows l.args l.params
