use Rattle.std.proofs.Common.{◌≡◌, take, map}
use Rattle.ur_load.specs.declared.source.Source.{Source}
use Rattle.ur_load.proofs.project.files_in.Given as goal

abbrev pub invariant-loop-source : goal.invariant-loop-source
invariant-loop-source l = l.files ≡ map (λ (s : Source). s.file) (take l.source-index l.sources)
