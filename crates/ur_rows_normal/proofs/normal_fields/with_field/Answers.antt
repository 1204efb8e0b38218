use Rattle.std.proofs.Common.{ap, ◌∙◌, ◌++◌, ◌∷◌, []}
use Rattle.ur_rows.specs.declared.normal.Part.TheVariants as part
use Rattle.ur_rows.proofs.Shapes.{field-made}
use Rattle.ur_rows_normal.proofs.normal_fields.with_field.Goals as goal

pub returns : goal.returns
returns c = c.in_ok-push.ensures.ok ∙ ap (λ z. c.args.parts ++ z ∷ []) (ap (λ y. part.Field c.args.label y) c.in_ok-t.ensures ∙ field-made c.args.label c.args.t)
