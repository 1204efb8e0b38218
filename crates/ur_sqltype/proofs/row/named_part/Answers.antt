use Rattle.std.proofs.Common.{◌∙◌, ap, ap₂}
use Rattle.ur_rows.specs.declared.normal.Label.TheVariants as label
use Rattle.ur_rows.specs.Made.{field}
use Rattle.ur_rows.proofs.Shapes.{field-made}
use Rattle.ur_sqltype.proofs.row.named_part.Goals as goal

pub returns : goal.returns
returns c = field-made (label.Literal c.in_ok-text.text) c.in_ok-of.of ∙ ap₂ (λ l t. field l t) (ap label.Literal (c.in_ok-text.ensures ∙ c.name_text.ensures)) c.in_ok-of.ensures
