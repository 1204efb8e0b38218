use Rattle.std.proofs.Common.{◌∙◌, sym, ap, subst}
use Rattle.ur_syntax.specs.declared.sql.SqlChange.TheVariants as written
use Rattle.ur_sqltype.specs.SqltypeFaults.{ActBreaks}
use Rattle.ur_sqltype.proofs.Exits.{refused-along}
use Rattle.ur_sqltype_statements.proofs.actions.action_of.Goals as goal

pub returns-in-Insert-clause-refused : goal.returns-in-Insert-clause-refused
returns-in-Insert-clause-refused c = refused-along c.insert_of.result (λ r h. subst (λ u. ActBreaks c.args.kinds.now (c.args.at, c.args.shape.now) u r) (sym (c.in-Insert.is ∙ ap (λ z. written.Insert c.in-Insert.span c.in-Insert.x z c.in-Insert.values) (sym c.as_slice.ensures) ∙ ap (λ z. written.Insert c.in-Insert.span c.in-Insert.x c.as_slice.result.now z) (sym c.as_slice-in-Insert.ensures))) h) c.insert_of.ensures.refused
