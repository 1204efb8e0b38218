use Rattle.std.proofs.Common.{◌∙◌, sym, ap, subst, Some}
use Rattle.std.specs.Prelude.{option_and_then}
use Rattle.ur_sqltype.specs.Query.{items_of, stated, well_grouped, query_over, query_of}
use Rattle.ur_sqltype.specs.SqltypeFaults.{Breaks, within}
use Rattle.ur_sqltype.proofs.Taken.{then_gives}
use Rattle.ur_sqltype.proofs.Exits.{refused-exit}
use Rattle.ur_sqltype_statements.proofs.query.query_of.Goals as goal

pub returns-in_err-sources-clause-refused : goal.returns-in_err-sources-clause-refused
returns-in_err-sources-clause-refused c = refused-exit c.from_residual.result c.in_err-sources.field-0.0 c.from_residual.ensures.1 (λ r h. h c.args.env.now.fields c.args.kinds.now) c.in_err-sources.ensures.refused

pub returns-in_err-core-clause-refused : goal.returns-in_err-core-clause-refused
returns-in_err-core-clause-refused c = refused-exit c.from_residual-in_err-core.result c.in_err-core.field-0.0 c.from_residual-in_err-core.ensures.1 (λ r b. within c.in_ok-sources.sources c.in_ok-sources.ensures.items (subst (λ w. Breaks c.args.env.now.fields w c.args.query.now r) c.in_ok-within.ensures (subst (λ ns. Breaks ns c.in_ok-within.within c.args.query.now r) c.as_slice.ensures b))) c.in_err-core.ensures.refused

pub returns-clause-typed : goal.returns-clause-typed
unfolding query_of
returns-clause-typed c = then_gives (query_over c.args.env.now.fields c.args.kinds.now c.args.query.now) (items_of c.args.env.now.home c.args.tables.now c.args.query.now.«from») c.in_ok-sources.sources (Some c.in_ok-core.core) c.in_ok-sources.ensures.items
    (ap (λ w. option_and_then well_grouped (stated c.args.env.now.fields w c.args.query.now)) (sym c.in_ok-within.ensures) ∙ ap (λ ns. option_and_then well_grouped (stated ns c.in_ok-within.within c.args.query.now)) (sym c.as_slice.ensures) ∙ c.in_ok-core.ensures.typed)
