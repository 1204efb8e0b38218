-- Levels of operators.
use Rattle.ur_parse_rules.specs.SqlParts as s
use Rattle.ur_parse_embed.specs.declared.made.Level.{Level}
use Rattle.ur_parse_embed.specs.declared.made.Level.TheVariants as levels

abbrev pub level_of : Level → s.SqlLevel
level_of levels.Disjunction = s.disjunction
level_of levels.Conjunction = s.conjunction
level_of levels.Sum = s.sum
level_of levels.Product = s.product
