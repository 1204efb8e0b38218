-- The columns of a field.
use Rattle.std.proofs.Common.{sym, subst}
use Rattle.std.specs.Prelude.{All, Contains}
use Rattle.ur_base.specs.declared.names.Name.{Name}
use Rattle.ur_sql.specs.declared.query.ColumnAt.{ColumnAt}
use Rattle.ur_sql.specs.Typing.{FieldReadsOnly}
use Rattle.ur_verify.proofs.queries.field_reads_only.Goals as goal

pub returns-in-Columns : goal.returns-in-Columns
returns-in-Columns c =
    let all = All (λ (x : Name × ColumnAt). Contains c.args.group.now x.1) in (
      (λ q. subst (FieldReadsOnly c.args.group.now) (sym c.in-Columns.is) (subst all c.as_slice.ensures (c.named_read_only.ensures.0 q))),
      (λ h. c.named_read_only.ensures.1 (subst all (sym c.as_slice.ensures) (subst (FieldReadsOnly c.args.group.now) c.in-Columns.is h))),
    )
