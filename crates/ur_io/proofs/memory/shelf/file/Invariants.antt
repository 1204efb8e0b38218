use Rattle.std.proofs.Common.{◌≡◌, drop}
use Rattle.ur_io.specs.Memory.{file_of}
use Rattle.ur_io.proofs.memory.shelf.file.Given as goal

abbrev pub invariant-loop-file : goal.invariant-loop-file
invariant-loop-file l = file_of l.files l.name ≡ file_of (drop l.file-index l.files) l.name
