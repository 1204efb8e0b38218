use Rattle.ur_tags.specs.Runs.{InRuns}
use Rattle.ur_tags.specs.Show.{escape}
use Rattle.ur_tags.proofs.marks.push_text.Given as goal

abbrev pub invariant-loop-at : goal.invariant-loop-at
invariant-loop-at l = InRuns escape l.initial.out l.text l.from l.at l.out
