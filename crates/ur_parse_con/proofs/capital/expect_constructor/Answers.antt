use Rattle.ur_lex.specs.declared.token.TokenKind.TheVariants as token
use Rattle.ur_parse_rules.specs.Words.{is_constructor}
use Rattle.ur_parse_rules.proofs.Places.{passing_name}
use Rattle.ur_parse_con.proofs.capital.expect_constructor.Goals as goal

pub returns-in_ok-text-clause-found : goal.returns-in_ok-text-clause-found
returns-in_ok-text-clause-found c = passing_name is_constructor c.args.tokens.now c.args.at token.Upper _ _ (c.sees_constructor.ensures.yes c.if-sees_constructor.true) c.content.ensures c.in_ok-text.ensures.found
