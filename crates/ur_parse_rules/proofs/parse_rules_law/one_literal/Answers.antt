use Rattle.ur_parse_rules.specs.Parts.{of_xml}
use Rattle.ur_parse_rules.proofs.AllDecided.{one_of}
use Rattle.ur_parse_rules.proofs.parse_rules_law.one_literal.Goals as goal

pub returns : goal.returns
returns c = λ q p. one_of (of_xml q p)
