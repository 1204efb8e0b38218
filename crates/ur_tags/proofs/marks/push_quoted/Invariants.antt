use Rattle.ur_tags.specs.Runs.{InRuns}
use Rattle.ur_tags.specs.Show.{escape_quoted}
use Rattle.ur_tags.proofs.marks.push_quoted.Given as goal

abbrev pub invariant-loop-at : goal.invariant-loop-at
invariant-loop-at l = InRuns escape_quoted l.initial.out l.text l.from l.at l.out
