use Rattle.ur_parse_rules.specs.DeclParts as d
use Rattle.ur_parse_rules.specs.Parts.{of_decl}
use Rattle.ur_parse_rules.proofs.AllDecided.{one_of}
use Rattle.ur_parse_rules.proofs.parse_rules_law.one_signature.Goals as goal

pub returns : goal.returns
returns c = λ tokens n m a b x y. one_of (of_decl d.signature) n m a b tokens x y
