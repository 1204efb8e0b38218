use Rattle.std.specs.Prelude.{codes}
use Rattle.std.proofs.Common.{sym, ◌∙◌}
use Rattle.ur_typed_rules.specs.Faults as faults
use Rattle.ur_typed_rules.specs.Arguments.{BreaksRowApart, BreaksRowPlace, row_of_other_kind, row_not_apart}
use Rattle.ur_check_scopes.specs.Views.{env_in}
use Rattle.ur_check_scopes.proofs.Exits.{refused-exit, refuses, told}
use Rattle.ur_check_scopes.proofs.Judging.{row-right}
use Rattle.ur_check_scopes.proofs.apart.is_row.Goals as goal

pub returns-then-not-is_in-clause-refused : goal.returns-then-not-is_in-clause-refused
returns-then-not-is_in-clause-refused c =
    let a = c.args.around.now in
    told a.world.now.datatype_names (BreaksRowPlace (env_in a.scope.cons) c.args.con.now c.args.row.now) c.unkinded.result (faults.unkinded (codes "another kind") (codes "{Type}"))
    (row_of_other_kind (sym c.in_ok-is_in.ensures ∙ c.if-not-is_in.true)) (c.unkinded.ensures a.world.now.datatype_names)

pub returns-in_err-row_apart-clause-refused : goal.returns-in_err-row_apart-clause-refused
returns-in_err-row_apart-clause-refused c =
    let a = c.args.around.now in
    refused-exit c.from_residual-in_err-row_apart.result c.in_err-row_apart.field-0.0 c.from_residual-in_err-row_apart.ensures.1
    (refuses a.world.now.datatype_names (BreaksRowApart (env_in a.scope.cons).known c.args.con.now c.args.row.now) (BreaksRowPlace (env_in a.scope.cons) c.args.con.now c.args.row.now) (λ f b. row_not_apart b))
    c.in_err-row_apart.ensures.refused

pub returns-clause-ok : goal.returns-clause-ok
returns-clause-ok c = row-right (env_in c.args.around.now.scope.cons) c.args.row.now (sym c.in_ok-is_in.ensures ∙ c.if-not-is_in.false) c.in_ok-row_apart.ensures.ok
