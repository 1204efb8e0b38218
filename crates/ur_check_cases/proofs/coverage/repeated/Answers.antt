use Rattle.std.proofs.Common.{sym, ◌∙◌}
use Rattle.ur_check_cases.proofs.Chosen.{repeats-there}
use Rattle.ur_check_cases.proofs.coverage.repeated.Goals as goal

pub returns-then-had : goal.returns-then-had
returns-then-had c = repeats-there c.args.branches.now c.loop-i.i c.index-branches-i.result c.loop-i-test.true c.index-branches-i.is (sym c.had.ensures ∙ c.if-had.true)
