use Rattle.ur_parse_rules.proofs.place.expect_name.Goals as goal
use Rattle.ur_parse_rules.proofs.Tokens.{any_name}

pub returns-in_ok-text-clause-found : goal.returns-in_ok-text-clause-found
returns-in_ok-text-clause-found c = any_name c.args.tokens.now c.args.at c.args.kind _ _ (c.sees.ensures.yes c.if-sees.true) c.content.ensures c.in_ok-text.ensures.found
