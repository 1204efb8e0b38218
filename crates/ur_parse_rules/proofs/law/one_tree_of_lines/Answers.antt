use Rattle.ur_parse_rules.specs.Lines.{lines}
use Rattle.ur_parse_rules.proofs.Once.{one_tree}
use Rattle.ur_parse_rules.proofs.LinesDecided.{choice, decided}
use Rattle.ur_parse_rules.proofs.law.one_tree_of_lines.Goals as goal

pub returns : goal.returns
returns c = one_tree lines choice decided
