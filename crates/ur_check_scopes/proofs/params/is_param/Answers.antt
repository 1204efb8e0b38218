use Rattle.std.specs.Prelude.{codes}
use Rattle.std.proofs.Common.{sym, ◌∙◌}
use Rattle.ur_typed_rules.specs.Faults.{not_so}
use Rattle.ur_typed_rules.specs.Arguments.{BreaksPlace, BreaksParameter, param_out_of_place, param_not_placed}
use Rattle.ur_check_scopes.specs.Views.{env_in}
use Rattle.ur_check_scopes.proofs.Exits.{refused-exit, refuses, told}
use Rattle.ur_check_scopes.proofs.Writing.{param-right}
use Rattle.ur_check_scopes.proofs.params.is_param.Goals as goal

pub returns-then-is_placed-clause-ok : goal.returns-then-is_placed-clause-ok
returns-then-is_placed-clause-ok c = param-right (env_in c.args.around.now.scope.cons) c.args.of.now c.in_ok-is_type.ensures.ok (sym c.is_placed.ensures ∙ c.if-is_placed.true)

pub returns-in_err-is_type-clause-refused : goal.returns-in_err-is_type-clause-refused
returns-in_err-is_type-clause-refused c =
    refused-exit c.from_residual.result c.in_err-is_type.field-0.0 c.from_residual.ensures.1
    (refuses c.args.around.now.world.now.datatype_names (BreaksPlace (env_in c.args.around.now.scope.cons) c.args.con.now c.args.of.now) (BreaksParameter (env_in c.args.around.now.scope.cons) c.args.con.now c.args.of.now) (λ f b. param_out_of_place b))
    c.in_err-is_type.ensures.refused

pub returns-clause-refused : goal.returns-clause-refused
returns-clause-refused c =
    told c.args.around.now.world.now.datatype_names (BreaksParameter (env_in c.args.around.now.scope.cons) c.args.con.now c.args.of.now) c.not_so.result
    (not_so (codes "a parameter") (codes "the type of a value or of a function")) (param_not_placed (sym c.is_placed.ensures ∙ c.if-is_placed.false)) (c.not_so.ensures c.args.around.now.world.now.datatype_names)
