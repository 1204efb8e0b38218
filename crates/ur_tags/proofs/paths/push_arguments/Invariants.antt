use Rattle.std.proofs.Common.{◌≡◌, ◌++◌, take}
use Rattle.std.specs.List.{flat_map}
use Rattle.ur_tags.specs.Paths.{argument_path}
use Rattle.ur_tags.proofs.paths.push_arguments.Given as goal

abbrev pub invariant-loop-arg : goal.invariant-loop-arg
invariant-loop-arg l = l.out ≡ l.initial.out ++ flat_map argument_path (take l.arg-index l.args)
