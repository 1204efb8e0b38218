use Rattle.ur_tags.specs.Runs.{InRuns}
use Rattle.ur_tags.specs.Segments.{encode_byte}
use Rattle.ur_tags.proofs.segments.push_encoded.Given as goal

abbrev pub invariant-loop-at : goal.invariant-loop-at
invariant-loop-at l = InRuns encode_byte l.initial.out l.bytes l.from l.at l.out
