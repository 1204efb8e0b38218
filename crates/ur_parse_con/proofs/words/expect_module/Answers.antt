use Rattle.ur_lex.specs.declared.token.TokenKind.TheVariants as token
use Rattle.ur_parse_rules.specs.Words.{is_free}
use Rattle.ur_parse_rules.proofs.Places.{passing_name}
use Rattle.ur_parse_con.proofs.words.expect_module.Goals as goal

pub returns-in_ok-text-clause-found : goal.returns-in_ok-text-clause-found
returns-in_ok-text-clause-found c = passing_name (is_free c.args.keys) c.args.tokens.now c.args.at token.Upper _ _ (c.sees_module.ensures.yes c.if-sees_module.true) c.content.ensures c.in_ok-text.ensures.found
