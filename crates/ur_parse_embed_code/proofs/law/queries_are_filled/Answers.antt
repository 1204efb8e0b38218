use Rattle.ur_parse_rules.specs.Quoted.{expressions, raw}
use Rattle.ur_parse_rules.specs.SqlParts as s
use Rattle.ur_parse_rules.specs.Parts.{of_sql}
use Rattle.ur_parse_rules.proofs.AllDecided.{one_of}
use Rattle.ur_parse_embed_code.specs.Laws.{query}
use Rattle.ur_parse_embed_code.proofs.Laws.{is_filled, is_filled_or_open, needs_code, query_read, query_complete}
use Rattle.ur_parse_embed_code.proofs.law.queries_are_filled.Goals as goal

pub returns-clause-read : goal.returns-clause-read
returns-clause-read c = query_read

pub returns-clause-filled : goal.returns-clause-filled
returns-clause-filled c = is_filled (of_sql expressions s.query) (query raw) (query expressions) query_complete

pub returns-clause-known : goal.returns-clause-known
returns-clause-known c = is_filled_or_open (of_sql expressions s.query) (query raw) (query expressions) query_complete

pub returns-clause-missing : goal.returns-clause-missing
returns-clause-missing c = needs_code (of_sql expressions s.query) (query raw) (query expressions) query_read (λ m n a b ts d e. one_of (of_sql raw s.query) m n a b ts d e)
