use Rattle.std.proofs.Common.{ap₂, ◌∙◌}
use Rattle.ur_rows.specs.declared.normal.Part.TheVariants as part
use Rattle.ur_rows.proofs.Shapes.{field-made}
use Rattle.ur_check_walk.proofs.fields.field_part.Goals as goal

pub returns : goal.returns
returns c = ap₂ part.Field c.in_ok-name.ensures c.in_ok-item.ensures ∙ field-made c.args.label.now c.args.of
