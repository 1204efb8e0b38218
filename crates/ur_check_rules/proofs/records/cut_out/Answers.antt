use Rattle.std.proofs.Common.{◌∙◌}
use Rattle.ur_rows.specs.declared.normal.NormalType.TheVariants as ty
use Rattle.ur_rows.proofs.Shapes.{record-made}
use Rattle.ur_check_scopes.proofs.Exits.{refused-exit}
use Rattle.ur_check_rules.proofs.Recorded.{cut-made, cut-told}
use Rattle.ur_check_rules.proofs.Trees as trees
use Rattle.ur_check_rules.proofs.records.cut_out.Goals as goal

pub returns-clause-cut : goal.returns-clause-cut
returns-clause-cut c =
    cut-made c.args.label c.args.out (record { of = ty.Record c.in_ok-row.row; exp = c.in_ok-exp.exp }) c.in_ok-row.row c.in_ok-row.ensures.row (record-made c.in_ok-row.row) (c.in_ok-exp.ensures ∙ trees.cut-made c.args.out.exp c.args.label)

pub returns-in_err-row-clause-refused : goal.returns-in_err-row-clause-refused
returns-in_err-row-clause-refused c =
    refused-exit c.from_residual.result c.in_err-row.field-0.0 c.from_residual.ensures.1 (λ r h. cut-told c.args.around.now.world.now.datatype_names c.args.label c.args.out r h) c.in_err-row.ensures.refused
