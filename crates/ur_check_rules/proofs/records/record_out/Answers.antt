use Rattle.std.proofs.Common.{◌≡◌, subst, ◌∙◌, true}
use Rattle.ur_typed_rules.specs.Tests.{are_apart}
use Rattle.ur_rows.specs.declared.normal.NormalType.TheVariants as ty
use Rattle.ur_rows.proofs.Shapes as types
use Rattle.ur_check_scopes.specs.Views.{Refuses, env_in}
use Rattle.ur_check_scopes.proofs.Exits.{refused-exit}
use Rattle.ur_check_rules.specs.Written.{written_names}
use Rattle.ur_check_rules.specs.Fields.{BreaksRecord}
use Rattle.ur_check_rules.proofs.Recorded.{record-answer, record-told}
use Rattle.ur_check_rules.proofs.Trees as trees
use Rattle.ur_check_rules.proofs.records.record_out.Goals as goal

pub returns-clause-made : goal.returns-clause-made
returns-clause-made c =
    record-answer c.args.around.now c.args.parts c.args.fields c.in_ok-row.row (record { of = ty.Record c.in_ok-row.row; exp = c.in_ok-exp.exp }) c.in_ok-row.ensures
    (subst (λ z. are_apart (env_in c.args.around.now.scope.cons).known z ≡ true) c.as_slice.ensures c.in_ok-are_apart.ensures.ok) (types.record-made c.in_ok-row.row) (c.in_ok-exp.ensures ∙ trees.record-made c.args.fields)

pub returns-in_err-are_apart-clause-refused : goal.returns-in_err-are_apart-clause-refused
returns-in_err-are_apart-clause-refused c =
    let names = c.args.around.now.world.now.datatype_names in
    let known = (env_in c.args.around.now.scope.cons).known in
    refused-exit c.from_residual-in_err-are_apart.result c.in_err-are_apart.field-0.0 c.from_residual-in_err-are_apart.ensures.1
    (λ r h. record-told c.args.around.now c.args.parts c.args.fields c.in_ok-row.row (written_names c.args.written.now) r c.in_ok-row.ensures
    (subst (λ z. Refuses names (BreaksRecord known (written_names c.args.written.now) z) r) c.as_slice.ensures h))
    c.in_err-are_apart.ensures.refused
