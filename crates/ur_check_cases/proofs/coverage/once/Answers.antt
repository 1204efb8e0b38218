use Rattle.std.proofs.Common.{◌∙◌}
use Rattle.ur_check_scopes.specs.Views.{world_in}
use Rattle.ur_check_cases.specs.Covering.{patterns_in}
use Rattle.ur_check_cases.proofs.Telling.{once-told}
use Rattle.ur_check_cases.proofs.coverage.once.Goals as goal

pub returns-in_ok-name-in-Some-clause-refused : goal.returns-in_ok-name-in-Some-clause-refused
returns-in_ok-name-in-Some-clause-refused c = once-told c.args.world.now.datatype_names (world_in c.args.world.now) (patterns_in c.args.branches.now) c.in-Some.pattern.now c.as_slice-text.result.now c.twice.result c.in-Some.ensures
    (c.as_slice-text.ensures ∙ c.in_ok-name-in-Some.ensures) (c.twice.ensures c.args.world.now.datatype_names)
