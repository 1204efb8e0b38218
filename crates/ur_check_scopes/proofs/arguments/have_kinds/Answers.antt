use Rattle.std.specs.Prelude.{codes}
use Rattle.ur_typed_rules.specs.Faults.{mismatch}
use Rattle.ur_check_scopes.specs.Views.{env_in}
use Rattle.ur_check_scopes.proofs.Exits.{told}
use Rattle.ur_check_scopes.specs.Arguments.{BreaksHaving}
use Rattle.ur_check_scopes.proofs.Giving.{none-left, kinds-right, of-more}
use Rattle.ur_check_scopes.proofs.arguments.have_kinds.Goals as goal

pub returns-in-None-clause-ok : goal.returns-in-None-clause-ok
returns-in-None-clause-ok c = kinds-right (env_in c.args.around.now.scope.cons) c.args.given c.in_ok-left.left c.args.cons.now c.in_ok-left.ensures.ok (none-left c.in_ok-left.left.args.now c.in-None.ensures.cases)

pub returns-in-Some-clause-refused : goal.returns-in-Some-clause-refused
returns-in-Some-clause-refused c =
    told c.args.around.now.world.now.datatype_names (BreaksHaving (env_in c.args.around.now.scope.cons) c.args.given c.args.cons.now) c.mismatch.result
    (mismatch (codes "a constructor argument") (codes "no further argument"))
    (of-more (env_in c.args.around.now.scope.cons) c.args.given c.in_ok-left.left c.args.cons.now c.in-Some._of.now c.in-Some._args.now c.in_ok-left.ensures.ok c.in-Some.ensures.cases.0)
    (c.mismatch.ensures c.args.around.now.world.now.datatype_names)
