use Rattle.std.proofs.Common.{rules, ◌+◌}
use Rattle.ur_check.proofs.Grouping.{behind-is}
use Rattle.ur_check.proofs.bodies.function_behind.Goals as goal

pub returns-in-Some : goal.returns-in-Some
returns-in-Some c = behind-is c.args.project.now.world.functions c.in-Some.at (c.args.first + c.args.behind) c.get.result c.get.ensures.value (search rules)
