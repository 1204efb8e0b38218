use Rattle.std.proofs.Common.{ap, refl, sym, ◌∙◌}
use Rattle.ur_typed.specs.Rules.{says_true, says_false, says_none}
use Rattle.ur_check_scopes.proofs.Exits.{refused-exit}
use Rattle.ur_check_rules.specs.Capitals.{capital_in}
use Rattle.ur_check_rules.proofs.Tagging.{own-head, word-told}
use Rattle.ur_check_rules.proofs.tags.own_tag.Goals as goal

pub returns-in_err-number-in-Other-clause-refused : goal.returns-in_err-number-in-Other-clause-refused
returns-in_err-number-in-Other-clause-refused c =
    refused-exit c.from_residual.result c.in_err-number-in-Other.field-0.0 c.from_residual.ensures.1
    (λ r h w s k. own-head c.args.around.now.world.now.datatype_names w c.args.x.now r (ap capital_in (sym c.in-Other.is) ∙ c.capital_of.ensures) (h w s k)) c.in_err-number-in-Other.ensures.refused

pub returns-in-True-clause-refused : goal.returns-in-True-clause-refused
returns-in-True-clause-refused c = word-told c.args.around.now c.args.x.now says_true c.no_argument.result (ap capital_in (sym c.in-True.is) ∙ c.capital_of.ensures) refl c.no_argument.ensures

pub returns-in-False-clause-refused : goal.returns-in-False-clause-refused
returns-in-False-clause-refused c = word-told c.args.around.now c.args.x.now says_false c.no_argument-in-False.result (ap capital_in (sym c.in-False.is) ∙ c.capital_of.ensures) refl c.no_argument-in-False.ensures

pub returns-in-None-clause-refused : goal.returns-in-None-clause-refused
returns-in-None-clause-refused c = word-told c.args.around.now c.args.x.now says_none c.no_argument-in-None.result (ap capital_in (sym c.in-None.is) ∙ c.capital_of.ensures) refl c.no_argument-in-None.ensures
