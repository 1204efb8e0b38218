use Rattle.ur_rows.proofs.Shapes.{record-made}
use Rattle.ur_sqltype.proofs.row.record_type.Goals as goal

pub returns : goal.returns
returns c = record-made c.args.row
