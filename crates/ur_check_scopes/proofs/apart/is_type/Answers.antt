use Rattle.std.specs.Prelude.{codes}
use Rattle.std.proofs.Common.{sym, ◌∙◌}
use Rattle.ur_typed_rules.specs.Faults as faults
use Rattle.ur_typed_rules.specs.Arguments.{BreaksApart, BreaksPlace, type_of_other_kind, type_not_apart}
use Rattle.ur_check_scopes.specs.Views.{env_in}
use Rattle.ur_check_scopes.proofs.Exits.{refused-exit, refuses, told}
use Rattle.ur_check_scopes.proofs.Judging.{type-right}
use Rattle.ur_check_scopes.proofs.apart.is_type.Goals as goal

pub returns-then-not-is_in-clause-refused : goal.returns-then-not-is_in-clause-refused
returns-then-not-is_in-clause-refused c =
    let a = c.args.around.now in
    told a.world.now.datatype_names (BreaksPlace (env_in a.scope.cons) c.args.con.now c.args.of.now) c.unkinded.result (faults.unkinded (codes "another kind") (codes "Type"))
    (type_of_other_kind (sym c.in_ok-is_in.ensures ∙ c.if-not-is_in.true)) (c.unkinded.ensures a.world.now.datatype_names)

pub returns-in_err-type_apart-clause-refused : goal.returns-in_err-type_apart-clause-refused
returns-in_err-type_apart-clause-refused c =
    let a = c.args.around.now in
    refused-exit c.from_residual-in_err-type_apart.result c.in_err-type_apart.field-0.0 c.from_residual-in_err-type_apart.ensures.1
    (refuses a.world.now.datatype_names (BreaksApart (env_in a.scope.cons).known c.args.con.now c.args.of.now) (BreaksPlace (env_in a.scope.cons) c.args.con.now c.args.of.now) (λ f b. type_not_apart b))
    c.in_err-type_apart.ensures.refused

pub returns-clause-ok : goal.returns-clause-ok
returns-clause-ok c = type-right (env_in c.args.around.now.scope.cons) c.args.of.now (sym c.in_ok-is_in.ensures ∙ c.if-not-is_in.false) c.in_ok-type_apart.ensures.ok
