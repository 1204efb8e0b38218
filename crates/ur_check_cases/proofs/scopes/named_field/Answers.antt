use Rattle.std.proofs.Common.{arith, ap, ap₂, ◌∙◌, ◌≡◌, ◌+◌}
use Rattle.ur_rows.specs.declared.normal.Var.TheVariants as var
use Rattle.ur_rows.specs.declared.normal.Label.TheVariants as label
use Rattle.ur_rows.specs.declared.normal.Part.TheVariants as part
use Rattle.ur_rows.proofs.Shapes.{field-made}
use Rattle.ur_check_cases.proofs.scopes.named_field.Goals as goal

pub returns : goal.returns
returns c =
    let none : c.args.kinds + 0 ≡ c.args.kinds = omega arith in
    ap₂ (λ v t. part.Field (label.Variable v) t) (c.in_ok-name.ensures ∙ ap (λ n. var.Free n) none) c.in_ok-of.ensures ∙ field-made (label.Variable (var.Free c.args.kinds)) c.args.of
