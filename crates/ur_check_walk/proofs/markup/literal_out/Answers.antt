use Rattle.std.proofs.Common.{◌∙◌, ap, sym, subst}
use Rattle.ur_typed_rules.specs.Arguments.{BreaksFields}
use Rattle.ur_typed.specs.Markups.{sort_fits}
use Rattle.ur_xmltype.specs.Views.{sort_in}
use Rattle.ur_check_scopes.specs.Views.{Refuses, env_in}
use Rattle.ur_check_scopes.proofs.Exits.{refused-exit}
use Rattle.ur_check_walk.proofs.markup.literal_out.Goals as goal

pub returns-clause-fits : goal.returns-clause-fits
returns-clause-fits c = ap (sort_fits (env_in c.args.around.now.scope.cons).known (sort_in c.args.sort)) (sym c.as_slice.ensures) ∙ c.in_ok-sort_fits.ensures.fits

pub returns-in_err-sort_fits-clause-refused : goal.returns-in_err-sort_fits-clause-refused
returns-in_err-sort_fits-clause-refused c =
    let names = c.args.around.now.world.now.datatype_names in
    refused-exit c.from_residual.result c.in_err-sort_fits.field-0.0 c.from_residual.ensures.1
    (λ r h. (h.0, subst (λ z. Refuses names (BreaksFields (env_in c.args.around.now.scope.cons).known z) r) c.as_slice.ensures h.1)) c.in_err-sort_fits.ensures.refused
