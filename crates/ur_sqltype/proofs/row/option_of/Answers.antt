use Rattle.std.proofs.Common.{◌∙◌, ap}
use Rattle.ur_rows.specs.Made.{option_of}
use Rattle.ur_rows.proofs.Shapes.{option-made}
use Rattle.ur_sqltype.proofs.row.option_of.Goals as goal

pub returns : goal.returns
returns c = option-made c.in_ok-of.of ∙ ap (λ t. option_of t) c.in_ok-of.ensures
