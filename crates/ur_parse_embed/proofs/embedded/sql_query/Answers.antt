use Rattle.ur_parse_rules.specs.Rules.{Read}
use Rattle.ur_parse_rules.proofs.Once.{read_once}
use Rattle.ur_parse_rules.specs.Quoted.{raw}
use Rattle.ur_parse_rules.specs.SqlParts.{query}
use Rattle.ur_parse_rules.specs.Parts.{of_sql}
use Rattle.ur_parse_rules.specs.Language.{language}
use Rattle.ur_parse_rules.proofs.Choice.{choice}
use Rattle.ur_parse_rules.proofs.AllDecided.{decided}
use Rattle.ur_parse_embed.proofs.Embedding.{embeds}
use Rattle.ur_parse_embed.proofs.embedded.sql_query.Goals as goal

pub returns-clause-found : goal.returns-clause-found
returns-clause-found c = let e = c.in_ok-made.ensures.found in rw e (embeds (λ n. Read language n (of_sql raw query)) (λ n m ts rest other x y a b. read_once language choice decided a b) c.in_ok-tree.ensures.moves c.new-quotes.ensures.exps c.new-quotes.ensures.attributes c.in_ok-tree.ensures.found)
