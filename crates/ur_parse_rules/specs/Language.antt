-- The grammar of the language, and what it means that tokens spell a module or a signature.
use Rattle.std.specs.Prelude.{ℕ, List, [], ◌∷◌}
use Rattle.ur_lex.specs.declared.token.Lexeme.{Lexeme}
use Rattle.ur_syntax.specs.declared.decl.Module.{Module}
use Rattle.ur_syntax.specs.declared.decl.Signature.{Signature}
use Rattle.ur_parse_rules.specs.Rules.{Rule, Grammar, part, Spells}
use Rattle.ur_parse_rules.specs.DeclParts as d
use Rattle.ur_parse_rules.specs.Parts.{Part, of_con, of_exp, of_sql, of_xml, of_decl, of_quote, of_code, Tree}
use Rattle.ur_parse_rules.specs.Constructors.{con_rules, con_cost}
use Rattle.ur_parse_rules.specs.Expressions.{exp_rules, exp_cost}
use Rattle.ur_parse_rules.specs.Statements.{sql_rules, sql_cost}
use Rattle.ur_parse_rules.specs.Markup.{xml_rules, xml_cost}
use Rattle.ur_parse_rules.specs.Declarations.{decl_rules}
use Rattle.ur_parse_rules.specs.Codes.{quote_rules, code_rules}
use Rattle.ur_parse_rules.specs.Ends.{more}

abbrev pub rules : (p : Part) → List (Rule Tree (Tree p))
rules (of_con p) = con_rules p
rules (of_exp p) = exp_rules p
rules (of_sql q p) = sql_rules q p
rules (of_xml q p) = xml_rules q p
rules (of_decl p) = decl_rules p
rules (of_quote q) = quote_rules q
rules (of_code p) = code_rules p

-- constructors, expressions, expressions of SQL and elements count for nesting
abbrev pub cost : Part → ℕ
cost (of_con p) = con_cost p
cost (of_exp p) = exp_cost p
cost (of_sql q p) = sql_cost p
cost (of_xml q p) = xml_cost p
cost (of_decl p) = 0
cost (of_quote q) = 0
cost (of_code p) = 0

abbrev pub language : Grammar Tree
language = record { rules = rules; cost = cost; more = more }

-- nesting that is read
abbrev pub max_nesting : ℕ
max_nesting = 256

-- the tokens are spelled by the module, with at most n nested constructors, expressions, expressions of SQL and elements
abbrev pub IsModule : ℕ → List Lexeme → Module → Type 0
IsModule n tokens m = Spells language n (part (of_decl d.whole) m ∷ []) tokens

-- the tokens are spelled by the signature
abbrev pub IsSignature : ℕ → List Lexeme → Signature → Type 0
IsSignature n tokens s = Spells language n (part (of_decl d.signature) s ∷ []) tokens
