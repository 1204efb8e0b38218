use Rattle.std.proofs.Common.{◌∙◌, [], ◌∷◌, ap}
use Rattle.ur_rows.specs.Made.{field}
use Rattle.ur_rows.proofs.Shapes.{field-made}
use Rattle.ur_xmltype.proofs.nodes.field_row.Goals as goal

pub returns : goal.returns
returns c = c.in_ok-row.ensures ∙ ap (λ p. p ∷ []) (field-made c.args.label c.in_ok-of.of ∙ ap (field c.args.label) (c.in_ok-of.ensures ∙ c.field_type.ensures))
