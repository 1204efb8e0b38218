use Rattle.std.specs.Option.{option_copied}
use Rattle.ur_typed_rules.specs.Scopes.{of_result}
use Rattle.ur_check_scopes.specs.Views.{mode_of}
use Rattle.ur_check_scopes.proofs.Wanting.{behind-past}
use Rattle.ur_check_scopes.proofs.modes.of_result.Goals as goal

pub loop-first-preserved : goal.loop-first-preserved
loop-first-preserved c =
    behind-past c.loop-first.left.now c.in-Some.rest.now c.in-Some._first.now (mode_of (option_copied c.loop-first.of)) (mode_of (option_copied c.behind_one-of.result))
    (of_result c.args.params.now (mode_of (option_copied c.args.wanted))) c.in-Some.ensures.cases.0 c.behind_one-of.ensures c.loop-first.invariant
