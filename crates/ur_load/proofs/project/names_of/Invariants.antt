use Rattle.std.proofs.Common.{◌≡◌, take, map}
use Rattle.ur_load.specs.Names.{module_name}
use Rattle.ur_load.specs.declared.source.Source.{Source}
use Rattle.ur_load.proofs.project.names_of.Given as goal

abbrev pub invariant-loop-source : goal.invariant-loop-source
invariant-loop-source l = l.names ≡ map (λ (s : Source). module_name s.name) (take l.source-index l.sources)
