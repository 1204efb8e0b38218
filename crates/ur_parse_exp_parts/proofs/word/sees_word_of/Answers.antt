use Rattle.ur_parse_rules.proofs.Tokens.{no_passing}
use Rattle.ur_parse_rules.specs.Words.{is_name}
use Rattle.ur_parse_rules.proofs.Places.{passing}
use Rattle.ur_parse_exp_parts.proofs.word.sees_word_of.Goals as goal

pub returns-then-sees-clause-yes : goal.returns-then-sees-clause-yes
returns-then-sees-clause-yes c = λ b. passing (is_name c.args.first) c.args.tokens.now c.args.at c.args.kind _ (c.sees.ensures.yes c.if-sees.true) c.content.ensures _ c.is_name.ensures b

pub returns-then-sees-clause-no : goal.returns-then-sees-clause-no
returns-then-sees-clause-no c = λ b. no_passing (is_name c.args.first) c.args.tokens.now c.args.at c.args.kind _ (c.sees.ensures.yes c.if-sees.true) c.content.ensures _ c.is_name.ensures b
