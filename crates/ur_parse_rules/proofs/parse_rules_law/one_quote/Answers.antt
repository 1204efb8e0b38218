use Rattle.ur_parse_rules.specs.Parts.{of_quote}
use Rattle.ur_parse_rules.proofs.AllDecided.{one_of}
use Rattle.ur_parse_rules.proofs.parse_rules_law.one_quote.Goals as goal

pub returns : goal.returns
returns c = λ q. one_of (of_quote q)
