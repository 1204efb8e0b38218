use Rattle.ur_parse_rules.specs.Words.{is_name}
use Rattle.ur_parse_rules.proofs.Places.{passing_name}
use Rattle.ur_parse_exp_parts.proofs.word.expect_word_of.Goals as goal

pub returns-in_ok-text-clause-found : goal.returns-in_ok-text-clause-found
returns-in_ok-text-clause-found c = passing_name (is_name c.args.first) c.args.tokens.now c.args.at c.args.kind _ _ (c.sees_word_of.ensures.yes c.if-sees_word_of.true) c.content.ensures c.in_ok-text.ensures.found
