use Rattle.std.proofs.Common.{◌∙◌, sym, ap}
use Rattle.ur_sqltype.specs.Lists.{repeated}
use Rattle.ur_sqltype.specs.Query.{same_column}
use Rattle.ur_sqltype.specs.SqltypeFaults.{no_column, selects, chosen_twice}
use Rattle.ur_sqltype.proofs.Exits.{refused-exit}
use Rattle.ur_sqltype_statements.proofs.columns.once_chosen.Goals as goal

pub returns-in_err-columns-clause-refused : goal.returns-in_err-columns-clause-refused
returns-in_err-columns-clause-refused c = refused-exit c.from_residual.result c.in_err-columns.field-0.0 c.from_residual.ensures.1 (λ r h names q is. no_column h.0 (selects h.0 (record { items = c.args.items.now; selection = is; stands = h.1 })) h.2) c.in_err-columns.ensures.refused

pub returns-in_ok-chosen_twice-in-Some-clause-refused : goal.returns-in_ok-chosen_twice-in-Some-clause-refused
returns-in_ok-chosen_twice-in-Some-clause-refused c = λ names q is. chosen_twice c.args.items.now is (record { ats = c.in_ok-columns.columns; at = c.in-Some.at; chosen = c.in_ok-columns.ensures.typed; twice = ap (repeated same_column) (sym c.as_slice.ensures) ∙ sym c.repeated_column.ensures ∙ c.in-Some.is; told = c.in_ok-chosen_twice-in-Some.ensures })
