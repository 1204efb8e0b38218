use Rattle.std.proofs.Common.{sym, ◌∙◌}
use Rattle.ur_check_scopes.specs.Views.{world_in, declared_in}
use Rattle.ur_check_cases.specs.Covering.{patterns_in}
use Rattle.ur_check_cases.proofs.Chosen.{all-cover, last-covers}
use Rattle.ur_check_cases.proofs.Telling.{missing-refused}
use Rattle.ur_check_cases.proofs.coverage.covered.Goals as goal

pub returns-then-last_is_any-clause-ok : goal.returns-then-last_is_any-clause-ok
returns-then-last_is_any-clause-ok c = last-covers (declared_in c.args.world.now) c.args.of.now (patterns_in c.args.branches.now) (sym c.last_is_any.ensures ∙ c.if-last_is_any.true)

pub returns-in_ok-name-in-Some-clause-refused : goal.returns-in_ok-name-in-Some-clause-refused
returns-in_ok-name-in-Some-clause-refused c = missing-refused c.args.world.now.datatype_names (world_in c.args.world.now) c.args.of.now (patterns_in c.args.branches.now) c.in-Some.pattern c.as_slice-text.result.now c.mismatch.result
    (sym c.last_is_any.ensures ∙ c.if-last_is_any.false) (sym c.in_ok-lacked.ensures ∙ c.in-Some.is) (c.as_slice-text.ensures ∙ c.in_ok-name-in-Some.ensures) (c.mismatch.ensures c.args.world.now.datatype_names)

pub returns-in-None-clause-ok : goal.returns-in-None-clause-ok
returns-in-None-clause-ok c = all-cover (declared_in c.args.world.now) c.args.of.now (patterns_in c.args.branches.now) (sym c.in_ok-lacked.ensures ∙ c.in-None.is)
