-- Each nonterminal of the language is read in one way.
use Rattle.ur_parse_rules.specs.Rules.{OneTree}
use Rattle.ur_parse_rules.proofs.Once.{Decided, one_tree}
use Rattle.ur_parse_rules.specs.Parts.{Part, of_con, of_exp, of_sql, of_xml, of_decl, of_quote, of_code}
use Rattle.ur_parse_rules.specs.Language.{language}
use Rattle.ur_parse_rules.proofs.Choice.{choice}
use Rattle.ur_parse_rules.proofs.ConDecided.{con_decided}
use Rattle.ur_parse_rules.proofs.ExpDecided.{exp_decided}
use Rattle.ur_parse_rules.proofs.SqlDecided.{sql_decided}
use Rattle.ur_parse_rules.proofs.XmlDecided.{xml_decided}
use Rattle.ur_parse_rules.proofs.DeclDecided.{decl_decided}
use Rattle.ur_parse_rules.proofs.CodeDecided.{quote_decided, code_decided}

pub decided : (p : Part) → Decided language choice p
decided (of_con p) = con_decided p
decided (of_exp p) = exp_decided p
decided (of_sql q p) = sql_decided q p
decided (of_xml q p) = xml_decided q p
decided (of_decl p) = decl_decided p
decided (of_quote q) = quote_decided q
decided (of_code p) = code_decided p

pub one_of : (p : Part) → OneTree language p
one_of = one_tree language choice decided
