use Rattle.ur_lex.specs.declared.token.TokenKind.TheVariants as token
use Rattle.ur_parse_rules.specs.Words.{is_field}
use Rattle.ur_parse_rules.proofs.Places.{passing_name}
use Rattle.ur_parse_rules.proofs.words.expect_field.Goals as goal

pub returns-in_ok-text-clause-found : goal.returns-in_ok-text-clause-found
returns-in_ok-text-clause-found c = passing_name is_field c.args.tokens.now c.args.at token.Upper _ _ (c.sees_field.ensures.yes c.if-sees_field.true) c.content.ensures c.in_ok-text.ensures.found
