-- The rule that the tokens choose: mostly by the first of them.
use Rattle.std.specs.Prelude.{ℕ, true, false, List, [], ◌∷◌, ◌++◌, codes, if◌then◌else◌}
use Rattle.ur_lex.specs.declared.token.Symbol.TheVariants as symbol
use Rattle.ur_lex.specs.declared.token.TokenKind.TheVariants as token
use Rattle.ur_lex.specs.declared.token.Lexeme.{Lexeme}
use Rattle.ur_parse_rules.specs.Places.{starts}
use Rattle.ur_parse_rules.specs.Classes.{Classes, all_of, member}
use Rattle.ur_parse_rules.specs.Quoted.{Quoting}
use Rattle.ur_parse_rules.specs.ConParts as c
use Rattle.ur_parse_rules.specs.ExpParts as e
use Rattle.ur_parse_rules.specs.SqlParts as s
use Rattle.ur_parse_rules.specs.XmlParts as x
use Rattle.ur_parse_rules.specs.Parts.{Part, of_con, of_exp, of_sql, of_xml, of_decl, of_quote, of_code}
use Rattle.ur_parse_rules.specs.Ends.{symbols, capitals, sql_operators}
use Rattle.ur_parse_rules.proofs.Leads.{hits}
use Rattle.ur_parse_rules.proofs.Table.{by_token}

-- `x ::`, `x <-`
abbrev pub colons : Classes
colons = symbols (symbol.DoubleColon ∷ [])

abbrev pub arrow : Classes
arrow = symbols (symbol.LeftArrow ∷ [])

abbrev pub a_name : List Classes
a_name = (all_of token.Lower ∷ []) ∷ []

-- `[` and then not `]`
abbrev pub bracket : Classes
bracket = symbols (symbol.RBracket ∷ [])

abbrev pub a_bracket : List Classes
a_bracket = symbols (symbol.LBracket ∷ []) ∷ []

-- `t.A` and then no operator or `AS`
abbrev pub goes_on : Classes
goes_on = capitals (codes "AS" ∷ []) ++ sql_operators false

abbrev pub a_column : List Classes
a_column = (all_of token.Lower ∷ all_of token.Upper ∷ []) ∷ symbols (symbol.Dot ∷ []) ∷ (all_of token.Upper ∷ []) ∷ []

abbrev pub aggregates : Classes
aggregates = capitals (codes "COUNT" ∷ codes "SUM" ∷ codes "MIN" ∷ codes "MAX" ∷ [])

abbrev pub param_choice : List Lexeme → ℕ
param_choice [] = 1
param_choice (t ∷ ts) = if hits colons true a_name ts then 0 else 1

abbrev pub exp_choice : List Lexeme → ℕ
exp_choice ts = if hits arrow true a_name ts then 1 else (if starts (member (symbols (symbol.Underscore ∷ []))) ts then 0 else 2)

abbrev pub selected_choice : List Lexeme → ℕ
selected_choice ts = if starts (member aggregates) ts then 2 else (if hits goes_on false a_column ts then 0 else 1)

abbrev pub part_choice : List Lexeme → ℕ
part_choice [] = 1
part_choice (t ∷ ts) = if member (all_of token.XmlText ∷ []) t.kind t.content then 0 else (if member (symbols (symbol.Lt ∷ [])) t.kind t.content then 3 else (if hits bracket false a_bracket ts then 2 else 1))

abbrev pub con_choice : c.ConPart → List Lexeme → ℕ
con_choice c.con_param = param_choice
con_choice p = by_token (of_con p)

abbrev pub exp_choices : e.ExpPart → List Lexeme → ℕ
exp_choices e.exp = exp_choice
exp_choices p = by_token (of_exp p)

abbrev pub sql_choice : Quoting → s.SqlPart → List Lexeme → ℕ
sql_choice q s.selected = selected_choice
sql_choice q p = by_token (of_sql q p)

abbrev pub xml_choice : Quoting → x.XmlPart → List Lexeme → ℕ
xml_choice q x.one_part = part_choice
xml_choice q p = by_token (of_xml q p)

abbrev pub choice : Part → List Lexeme → ℕ
choice (of_con p) = con_choice p
choice (of_exp p) = exp_choices p
choice (of_sql q p) = sql_choice q p
choice (of_xml q p) = xml_choice q p
choice (of_decl p) = by_token (of_decl p)
choice (of_quote q) = by_token (of_quote q)
choice (of_code p) = by_token (of_code p)
