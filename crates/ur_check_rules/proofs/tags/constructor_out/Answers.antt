use Rattle.std.proofs.Common.{ap, sym, ◌∙◌}
use Rattle.std.specs.Option.{option_copied}
use Rattle.ur_typed.specs.Rules.{says_true, says_false}
use Rattle.ur_check_scopes.specs.Views.{mode_of}
use Rattle.ur_check_scopes.proofs.Exits.{ok-along, refused-along}
use Rattle.ur_check_rules.specs.Capitals.{capital_in}
use Rattle.ur_check_rules.proofs.Tagging.{named-so, own-told, absent-named}
use Rattle.ur_check_rules.proofs.tags.constructor_out.Goals as goal

pub returns-in-True-clause-named : goal.returns-in-True-clause-named
returns-in-True-clause-named c =
    ok-along c.bool_out.result (λ o h w s st k. named-so c.args.x.now (mode_of (option_copied c.args.wanted)) says_true o (sym c.capital_of.ensures ∙ ap capital_in c.in-True.is) w s st (h st)) c.bool_out.ensures.truth

pub returns-in-False-clause-named : goal.returns-in-False-clause-named
returns-in-False-clause-named c =
    ok-along c.bool_out-in-False.result (λ o h w s st k. named-so c.args.x.now (mode_of (option_copied c.args.wanted)) says_false o (sym c.capital_of.ensures ∙ ap capital_in c.in-False.is) w s st (h st)) c.bool_out-in-False.ensures.truth

pub returns-in-None-clause-refused : goal.returns-in-None-clause-refused
returns-in-None-clause-refused c =
    refused-along c.absent_out.result (λ r h w s st k. absent-named c.args.around.now.world.now.datatype_names w s st (mode_of (option_copied c.args.wanted)) c.args.x.now r (sym c.capital_of.ensures ∙ ap capital_in c.in-None.is) (h w s st)) c.absent_out.ensures.refused

pub returns-in-Other-clause-refused : goal.returns-in-Other-clause-refused
returns-in-Other-clause-refused c =
    refused-along c.tagged_out.result (λ r h w s st k. own-told c.args.around.now.world.now.datatype_names w s st (mode_of (option_copied c.args.wanted)) c.args.x.now r (sym c.capital_of.ensures ∙ ap capital_in c.in-Other.is) (h w s k)) c.tagged_out.ensures.refused
