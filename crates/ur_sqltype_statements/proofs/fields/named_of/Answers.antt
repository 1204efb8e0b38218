use Rattle.std.proofs.Common.{◌∙◌, sym, ap}
use Rattle.ur_syntax.specs.declared.sql.Selection.TheVariants as selection
use Rattle.ur_sqltype.specs.SqltypeFaults.{no_item}
use Rattle.ur_sqltype.proofs.Exits.{refused-exit}
use Rattle.ur_sqltype_statements.proofs.fields.named_of.Goals as goal

pub returns-in_err-fields-in-Items-clause-refused : goal.returns-in_err-fields-in-Items-clause-refused
returns-in_err-fields-in-Items-clause-refused c = refused-exit c.from_residual.result c.in_err-fields-in-Items.field-0.0 c.from_residual.ensures.1 (λ r h others. no_item h.0 (record { items = c.as_slice.result.now; selection = c.in-Items.is ∙ ap selection.Items (sym c.as_slice.ensures); stands = h.1 }) h.2) c.in_err-fields-in-Items.ensures.refused
