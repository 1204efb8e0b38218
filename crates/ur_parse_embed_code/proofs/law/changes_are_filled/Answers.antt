use Rattle.ur_parse_rules.specs.Quoted.{expressions, raw}
use Rattle.ur_parse_rules.specs.SqlParts as s
use Rattle.ur_parse_rules.specs.Parts.{of_sql}
use Rattle.ur_parse_rules.proofs.AllDecided.{one_of}
use Rattle.ur_parse_embed_code.specs.Laws.{change}
use Rattle.ur_parse_embed_code.proofs.Laws.{is_filled, is_filled_or_open, needs_code, change_read, change_complete}
use Rattle.ur_parse_embed_code.proofs.law.changes_are_filled.Goals as goal

pub returns-clause-read : goal.returns-clause-read
returns-clause-read c = change_read

pub returns-clause-filled : goal.returns-clause-filled
returns-clause-filled c = is_filled (of_sql expressions s.change) (change raw) (change expressions) change_complete

pub returns-clause-known : goal.returns-clause-known
returns-clause-known c = is_filled_or_open (of_sql expressions s.change) (change raw) (change expressions) change_complete

pub returns-clause-missing : goal.returns-clause-missing
returns-clause-missing c = needs_code (of_sql expressions s.change) (change raw) (change expressions) change_read (λ m n a b ts d e. one_of (of_sql raw s.change) m n a b ts d e)
