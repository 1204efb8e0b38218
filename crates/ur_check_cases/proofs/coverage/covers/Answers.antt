use Rattle.std.specs.Prelude.{◌||◌}
use Rattle.ur_tree.specs.Patterns.{same_pattern, last_is_any, has_all, constructors_of}
use Rattle.ur_typed_rules.specs.Tests.{are_once}
use Rattle.ur_check_scopes.specs.Views.{world_in, declared_in}
use Rattle.ur_check_scopes.proofs.Exits.{refused-exit}
use Rattle.ur_check_cases.specs.Covering.{patterns_in}
use Rattle.ur_check_cases.proofs.Telling.{every-type, whole-covers}
use Rattle.ur_check_cases.proofs.coverage.covers.Goals as goal

pub returns-in_err-once-clause-refused : goal.returns-in_err-once-clause-refused
returns-in_err-once-clause-refused c = refused-exit c.from_residual.result c.in_err-once.field-0.0 c.from_residual.ensures.1 (every-type c.args.world.now.datatype_names (world_in c.args.world.now) (patterns_in c.args.branches.now) c.args.of.now) c.in_err-once.ensures.refused

pub returns-clause-covered : goal.returns-clause-covered
returns-clause-covered c = whole-covers c.covered.result (are_once same_pattern (patterns_in c.args.branches.now)) (last_is_any (patterns_in c.args.branches.now) || has_all (constructors_of (declared_in c.args.world.now) c.args.of.now) (patterns_in c.args.branches.now)) c.in_ok-once.ensures.ok c.covered.ensures.ok
