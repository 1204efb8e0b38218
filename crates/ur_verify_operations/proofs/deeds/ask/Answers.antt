-- A query.
use Rattle.std.proofs.Common.{sym, ap, ◌∙◌}
use Rattle.std.specs.Prelude.{map}
use Rattle.std.specs.Option.{option_copied}
use Rattle.ur_terms.specs.Types.{answer_type}
use Rattle.ur_code.specs.Fits.{signature}
use Rattle.ur_code.specs.RowType.{kind_type, query_type}
use Rattle.ur_verify_operations.proofs.Declared.{mapped_at, exactly_as, ask_at}
use Rattle.ur_verify_operations.proofs.deeds.ask.Goals as goal

pub returns-clause-fits : goal.returns-clause-fits
returns-clause-fits c =
    ask_at (signature c.args.code.now) c.args.how c.args.site (query_type c.in-Some.query.now).0 (query_type c.in-Some.query.now).1 c.args.ts.now c.exactly.result
    (mapped_at query_type c.args.code.now.queries c.args.site c.in-Some.query.now (sym c.get.ensures.value ∙ ap option_copied c.in-Some.is))
    (exactly_as c.args.ts.now _ _ _ _ c.exactly.result
    (c.as_slice-2.ensures ∙ c.in_ok-params.ensures ∙ ap (map kind_type) c.as_slice.ensures)
    (c.in_ok-gives.ensures ∙ ap (answer_type c.args.how) c.in_ok-row.ensures) c.exactly.ensures.fits)
