-- The choices that are left, before what is put together, are all of them before the last part.
use Rattle.std.proofs.Common.{◌≡◌, length}
use Rattle.ur_parse_exp_parts.specs.Lines.{ended}
use Rattle.ur_parse_exp.specs.Choices.{chosen}
use Rattle.ur_parse_exp.proofs.choice.chosen.Given as goal

abbrev pub invariant-choices : goal.invariant-choices
invariant-choices l = record {
  whole : chosen l.before l.covered (ended l.whole.tree) ≡ chosen l.initial.before l.covered (ended l.initial.whole.tree);
  end : l.whole.end ≡ l.initial.whole.end;
}

abbrev pub decreases-choices : goal.decreases-choices
decreases-choices l = length l.before
