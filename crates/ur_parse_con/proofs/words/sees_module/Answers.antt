use Rattle.ur_parse_rules.proofs.Tokens.{no_passing}
use Rattle.ur_lex.specs.declared.token.TokenKind.TheVariants as token
use Rattle.ur_parse_rules.specs.Words.{is_free}
use Rattle.ur_parse_rules.proofs.Places.{passing}
use Rattle.ur_parse_con.proofs.words.sees_module.Goals as goal

pub returns-then-sees-clause-yes : goal.returns-then-sees-clause-yes
returns-then-sees-clause-yes c = λ b. passing (is_free c.args.keys) c.args.tokens.now c.args.at token.Upper _ (c.sees.ensures.yes c.if-sees.true) c.content.ensures _ c.is_free.ensures b

pub returns-then-sees-clause-no : goal.returns-then-sees-clause-no
returns-then-sees-clause-no c = λ b. no_passing (is_free c.args.keys) c.args.tokens.now c.args.at token.Upper _ (c.sees.ensures.yes c.if-sees.true) c.content.ensures _ c.is_free.ensures b
