use Rattle.std.proofs.Common.{ap, sym, ◌∙◌}
use Rattle.std.specs.Option.{option_copied}
use Rattle.ur_check_scopes.specs.Views.{key_in}
use Rattle.ur_check_scopes.proofs.Exits.{ok-along, refused-along, refused-exit, refuses}
use Rattle.ur_check_rules.specs.Callees.{IsNoTag, BreaksTag, undeclared}
use Rattle.ur_check_rules.proofs.Tagging.{tagged-out, tagged-told}
use Rattle.ur_check_rules.proofs.tags.tagged_out.Goals as goal

pub returns-in-Some-clause-tagged : goal.returns-in-Some-clause-tagged
returns-in-Some-clause-tagged c =
    ok-along c.variant_out.result (λ o h. tagged-out c.args.around.now c.args.key.now c.in_ok-number.number c.in-Some.variant.now o c.in_ok-number.ensures.number (sym c.get.ensures.value ∙ ap option_copied c.in-Some.is) h) c.variant_out.ensures.plain

pub returns-in-Some-clause-refused : goal.returns-in-Some-clause-refused
returns-in-Some-clause-refused c =
    refused-along c.variant_out.result (λ r h. tagged-told c.args.around.now c.args.key.now c.in_ok-number.number c.in-Some.variant.now c.in_ok-number.ensures.number (sym c.get.ensures.value ∙ ap option_copied c.in-Some.is) r h) c.variant_out.ensures.refused

pub returns-in_err-number-clause-refused : goal.returns-in_err-number-clause-refused
returns-in_err-number-clause-refused c =
    refused-exit c.from_residual.result c.in_err-number.field-0.0 c.from_residual.ensures.1
    (λ r h w s k. refuses c.args.around.now.world.now.datatype_names (IsNoTag w (key_in c.args.key.now)) (BreaksTag w (key_in c.args.key.now)) (λ f b. undeclared b) r (h w s k)) c.in_err-number.ensures.refused
