use Rattle.ur_parse_rules.specs.Parts.{of_exp}
use Rattle.ur_parse_rules.proofs.AllDecided.{one_of}
use Rattle.ur_parse_rules.proofs.parse_rules_law.one_expression.Goals as goal

pub returns : goal.returns
returns c = λ p. one_of (of_exp p)
