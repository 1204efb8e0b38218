use Rattle.std.proofs.Common.{◌∙◌, sym, ap}
use Rattle.ur_syntax.specs.declared.sql.Selection.TheVariants as selection
use Rattle.ur_sqltype.proofs.Exits.{refused-exit}
use Rattle.ur_sqltype_statements.proofs.columns.chosen_of.Goals as goal

pub returns-in_err-columns-in-Items-clause-refused : goal.returns-in_err-columns-in-Items-clause-refused
returns-in_err-columns-in-Items-clause-refused c = refused-exit c.from_residual.result c.in_err-columns-in-Items.field-0.0 c.from_residual.ensures.1 (λ r h names. h names c.args.query.now (c.in-Items.is ∙ ap selection.Items (sym c.as_slice.ensures))) c.in_err-columns-in-Items.ensures.refused
