use Rattle.std.proofs.Common.{◌≡◌, ◌++◌, drop, option_map}
use Rattle.ur_tags.specs.Paths.{arguments}
use Rattle.ur_tags.proofs.paths.arguments.Given as goal

abbrev pub invariant-loop-param : goal.invariant-loop-param
invariant-loop-param l =
    option_map (λ args. l.args ++ args) (arguments (drop l.param-index l.params) (drop l.used l.texts)) ≡ arguments l.params l.texts
