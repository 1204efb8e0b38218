use Rattle.ur_parse_rules.specs.Quoted.{expressions, raw}
use Rattle.ur_parse_rules.specs.XmlParts as x
use Rattle.ur_parse_rules.specs.Parts.{of_xml}
use Rattle.ur_parse_rules.proofs.AllDecided.{one_of}
use Rattle.ur_parse_embed_code.specs.Laws.{literal}
use Rattle.ur_parse_embed_code.proofs.Laws.{is_filled, is_filled_or_open, needs_code, literal_read, literal_complete}
use Rattle.ur_parse_embed_code.proofs.law.literals_are_filled.Goals as goal

pub returns-clause-read : goal.returns-clause-read
returns-clause-read c = literal_read

pub returns-clause-filled : goal.returns-clause-filled
returns-clause-filled c = is_filled (of_xml expressions x.literal) (literal raw) (literal expressions) literal_complete

pub returns-clause-known : goal.returns-clause-known
returns-clause-known c = is_filled_or_open (of_xml expressions x.literal) (literal raw) (literal expressions) literal_complete

pub returns-clause-missing : goal.returns-clause-missing
returns-clause-missing c = needs_code (of_xml expressions x.literal) (literal raw) (literal expressions) literal_read (λ m n a b ts d e. one_of (of_xml raw x.literal) m n a b ts d e)
