-- What each nonterminal begins with, and which may be empty.
use Rattle.std.specs.Prelude.{Bool, true, false, List, [], ◌∷◌, ◌++◌, codes}
use Rattle.ur_lex.specs.declared.token.Keyword.TheVariants as keyword
use Rattle.ur_lex.specs.declared.token.Symbol.TheVariants as symbol
use Rattle.ur_lex.specs.declared.token.TokenKind.TheVariants as token
use Rattle.ur_lex.specs.Spelling.{Text}
use Rattle.ur_parse_rules.specs.Classes.{Classes, all_of, symbol_class, keyword_class, but_class}
use Rattle.ur_parse_rules.specs.KindNumbers.{kind_number}
use Rattle.ur_parse_rules.specs.Words.{name_test}
use Rattle.ur_parse_rules.specs.ConParts as c
use Rattle.ur_parse_rules.specs.ExpParts as e
use Rattle.ur_parse_rules.specs.SqlParts as s
use Rattle.ur_parse_rules.specs.XmlParts as x
use Rattle.ur_parse_rules.specs.DeclParts as d
use Rattle.ur_parse_rules.specs.CodeParts as code
use Rattle.ur_parse_rules.specs.Parts.{Part, of_con, of_exp, of_sql, of_xml, of_decl, of_quote, of_code}
use Rattle.ur_parse_rules.specs.Ends.{symbols, keywords, capitals, con_args, exp_args, dot_class, binder_starts, comma_class, xml_starts, decl_starts, code_starts}

-- ---- constructors

abbrev pub name_starts : Classes
name_starts = all_of token.Lower ∷ all_of token.Upper ∷ []

abbrev pub kind_starts : Classes
kind_starts = all_of token.Upper ∷ symbols (symbol.LBrace ∷ symbol.LParen ∷ [])

abbrev pub con_starts : Classes
con_starts = keyword_class keyword.Fn ∷ con_args false

abbrev pub con_first : c.ConPart → Classes
con_first c.kind = kind_starts
con_first c.kind_atom = kind_starts
con_first c.kind_tail = symbols (symbol.Arrow ∷ [])
con_first (c.con place) = con_starts
con_first (c.arrow keys) = con_args false
con_first (c.arrow_tail keys) = symbols (symbol.Arrow ∷ [])
con_first (c.concat keys) = con_args false
con_first (c.concat_tail keys) = symbols (symbol.DoublePlus ∷ [])
con_first (c.app keys) = con_args false
con_first (c.args keys) = con_args keys
con_first (c.arg keys) = con_args keys
con_first (c.atom keys) = con_args keys
con_first c.field_name = name_starts
con_first c.row = symbol_class symbol.RBracket ∷ name_starts
con_first c.row_field = name_starts
con_first c.row_value = symbols (symbol.Eq ∷ [])
con_first c.row_tail = symbols (symbol.RBracket ∷ symbol.Comma ∷ [])
con_first c.fields = symbol_class symbol.RBrace ∷ name_starts
con_first c.record_field = name_starts
con_first c.fields_tail = symbols (symbol.RBrace ∷ symbol.Comma ∷ [])
con_first c.con_param = symbols (symbol.LBracket ∷ [])

abbrev pub con_empty : c.ConPart → Bool
con_empty c.kind_tail = true
con_empty (c.arrow_tail keys) = true
con_empty (c.concat_tail keys) = true
con_empty (c.args keys) = true
con_empty c.row_value = true
con_empty _ = false

-- ---- expressions

-- at the head the words of forms are no names
abbrev pub base_starts : Bool → Classes
base_starts first = all_of (token.Int 0) ∷ all_of token.Str ∷ record { kind = kind_number token.Lower; test = name_test first } ∷ keyword_class keyword.Let ∷ symbols (symbol.LParen ∷ symbol.LBrace ∷ symbol.XmlOpen ∷ symbol.XmlEmpty ∷ [])

abbrev pub post_starts : Bool → Classes
post_starts first = record { kind = kind_number token.Upper; test = name_test first } ∷ symbol_class symbol.LBracket ∷ base_starts first

abbrev pub negative_starts : Classes
negative_starts = symbol_class symbol.Minus ∷ exp_args

abbrev pub line_starts : Classes
line_starts = keywords (keyword.If ∷ keyword.Fn ∷ keyword.Case ∷ []) ++ negative_starts

abbrev pub exp_starts : Classes
exp_starts = symbol_class symbol.Underscore ∷ line_starts

abbrev pub pat_starts : Classes
pat_starts = binder_starts ++ (all_of (token.Int 0) ∷ all_of token.Str ∷ all_of token.Upper ∷ symbols (symbol.Minus ∷ symbol.LBracket ∷ []))

abbrev pub step_starts : e.Level → Classes
step_starts e.disjunction = symbols (symbol.OrOr ∷ [])
step_starts e.conjunction = symbols (symbol.AndAnd ∷ [])
step_starts e.append = symbols (symbol.Caret ∷ symbol.DoublePlus ∷ symbol.DoubleMinus ∷ [])
step_starts e.sum = symbols (symbol.Plus ∷ symbol.Minus ∷ [])
step_starts e.product = symbols (symbol.Star ∷ symbol.Slash ∷ symbol.Percent ∷ [])

abbrev pub param_starts : Classes
param_starts = symbols (symbol.LParen ∷ symbol.LBracket ∷ []) ++ binder_starts

abbrev pub exp_first : e.ExpPart → Classes
exp_first e.exp = exp_starts
exp_first e.rest = symbols (symbol.Semicolon ∷ [])
exp_first e.line = line_starts
exp_first e.lambda = keyword_class keyword.Fn ∷ []
exp_first e.bar = symbols (symbol.Bar ∷ [])
exp_first e.branches = pat_starts
exp_first e.more_branches = symbols (symbol.Bar ∷ [])
exp_first (e.left l) = negative_starts
exp_first (e.left_tail l) = step_starts l
exp_first (e.operand l) = negative_starts
exp_first (e.left_step l) = step_starts l
exp_first e.comparison = negative_starts
exp_first e.comparison_tail = symbols (symbol.Eq ∷ symbol.Ne ∷ symbol.Lt ∷ symbol.Le ∷ symbol.Gt ∷ symbol.Ge ∷ [])
exp_first e.cons = negative_starts
exp_first e.cons_tail = symbols (symbol.DoubleColon ∷ [])
exp_first e.negative = negative_starts
exp_first e.app = exp_args
exp_first e.args = exp_args
exp_first e.arg = exp_args
exp_first e.bracketed = symbol_class symbol.RBracket ∷ con_starts
exp_first e.head = exp_args
exp_first (e.post first) = post_starts first
exp_first (e.base first) = base_starts first
exp_first e.capital_rest = dot_class ∷ []
exp_first e.member = name_starts
exp_first e.nil_end = symbols (symbol.RBracket ∷ [])
exp_first e.dot = dot_class ∷ []
exp_first e.dots = dot_class ∷ []
exp_first e.paren_rest = symbol_class symbol.RParen ∷ exp_starts
exp_first e.field = name_starts
exp_first e.fields = symbol_class symbol.RBrace ∷ name_starts
exp_first e.fields_tail = symbols (symbol.RBrace ∷ symbol.Comma ∷ [])
exp_first e.let_val = keyword_class keyword.Val ∷ []
exp_first e.let_vals = keyword_class keyword.Val ∷ []
exp_first e.removed = symbol_class symbol.Hash ∷ name_starts
exp_first e.binder = binder_starts
exp_first e.param = symbols (symbol.LParen ∷ [])
exp_first e.param_rest = symbol_class symbol.RParen ∷ binder_starts
exp_first e.lambda_param = param_starts
exp_first e.lambda_params = param_starts
exp_first e.pat = pat_starts
exp_first e.pat_cons = symbols (symbol.DoubleColon ∷ [])
exp_first e.pat_rest = dot_class ∷ binder_starts
exp_first e.pat_argument = binder_starts

abbrev pub exp_empty : e.ExpPart → Bool
exp_empty e.rest = true
exp_empty e.bar = true
exp_empty e.more_branches = true
exp_empty (e.left_tail l) = true
exp_empty e.comparison_tail = true
exp_empty e.cons_tail = true
exp_empty e.args = true
exp_empty e.capital_rest = true
exp_empty e.dots = true
exp_empty e.let_vals = true
exp_empty e.lambda_params = true
exp_empty e.pat_cons = true
exp_empty e.pat_rest = true
exp_empty e.pat_argument = true
exp_empty _ = false

-- ---- SQL

-- the words that a value or an aggregate begins with, which name no column
abbrev pub value_words : List Text
value_words = codes "TRUE" ∷ codes "FALSE" ∷ codes "NULL" ∷ codes "SOME" ∷ codes "NOT" ∷ codes "COUNT" ∷ codes "SUM" ∷ codes "MIN" ∷ codes "MAX" ∷ []

abbrev pub sql_atom_starts : Classes
sql_atom_starts = all_of (token.Int 0) ∷ all_of token.SqlText ∷ all_of token.Lower ∷ but_class token.Upper (codes "NOT" ∷ codes "COUNT" ∷ codes "SUM" ∷ codes "MIN" ∷ codes "MAX" ∷ []) ∷ symbols (symbol.LBrace ∷ symbol.LParen ∷ [])

abbrev pub sql_negative_starts : Classes
sql_negative_starts = symbol_class symbol.Minus ∷ sql_atom_starts

abbrev pub sql_starts : Classes
sql_starts = capitals (codes "NOT" ∷ []) ++ sql_negative_starts

abbrev pub sql_level_starts : s.SqlLevel → Classes
sql_level_starts s.disjunction = sql_starts
sql_level_starts s.conjunction = sql_starts
sql_level_starts _ = sql_negative_starts

abbrev pub sql_step_starts : s.SqlLevel → Classes
sql_step_starts s.disjunction = capitals (codes "OR" ∷ [])
sql_step_starts s.conjunction = capitals (codes "AND" ∷ [])
sql_step_starts s.sum = symbols (symbol.Plus ∷ symbol.Minus ∷ [])
sql_step_starts s.product = symbols (symbol.Star ∷ [])

abbrev pub selected_starts : Classes
selected_starts = all_of token.Upper ∷ sql_starts

abbrev pub sql_first : s.SqlPart → Classes
sql_first (s.sexp bare) = sql_starts
sql_first (s.left bare l) = sql_level_starts l
sql_first (s.left_tail bare l) = sql_step_starts l
sql_first (s.operand bare l) = sql_level_starts l
sql_first (s.left_step bare l) = sql_step_starts l
sql_first (s.negation bare) = sql_starts
sql_first (s.comparison bare) = sql_negative_starts
sql_first (s.comparison_tail bare) = symbols (symbol.Eq ∷ symbol.Ne ∷ symbol.Lt ∷ symbol.Le ∷ symbol.Gt ∷ symbol.Ge ∷ []) ++ capitals (codes "IS" ∷ [])
sql_first s.is_rest = capitals (codes "NULL" ∷ codes "NOT" ∷ [])
sql_first (s.negative bare) = sql_negative_starts
sql_first (s.atom bare) = sql_atom_starts
sql_first (s.column bare) = all_of token.Lower ∷ but_class token.Upper value_words ∷ []
sql_first s.qualifier = dot_class ∷ []
sql_first s.anti = symbols (symbol.LBrace ∷ [])
sql_first s.name = name_starts
sql_first s.query = capitals (codes "SELECT" ∷ [])
sql_first s.selection = symbol_class symbol.Star ∷ selected_starts
sql_first s.selected = selected_starts
sql_first s.more_selected = comma_class ∷ []
sql_first s.aggregate = capitals (codes "COUNT" ∷ codes "SUM" ∷ codes "MIN" ∷ codes "MAX" ∷ [])
sql_first s.item = name_starts
sql_first s.alias = capitals (codes "AS" ∷ [])
sql_first s.more_items = comma_class ∷ capitals (codes "JOIN" ∷ [])
sql_first (s.filter bare) = capitals (codes "WHERE" ∷ [])
sql_first s.group = capitals (codes "GROUP" ∷ [])
sql_first s.more_columns = comma_class ∷ []
sql_first s.order = capitals (codes "ORDER" ∷ [])
sql_first s.order_key = sql_starts
sql_first s.direction = capitals (codes "ASC" ∷ codes "DESC" ∷ [])
sql_first s.more_keys = comma_class ∷ []
sql_first s.limit = capitals (codes "LIMIT" ∷ [])
sql_first s.offset = capitals (codes "OFFSET" ∷ [])
sql_first s.amount = all_of (token.Int 0) ∷ symbols (symbol.LBrace ∷ [])
sql_first s.change = capitals (codes "INSERT" ∷ codes "UPDATE" ∷ codes "DELETE" ∷ [])
sql_first s.columns_end = symbols (symbol.RParen ∷ symbol.Comma ∷ [])
sql_first s.values_end = symbols (symbol.RParen ∷ symbol.Comma ∷ [])
sql_first s.assignment = all_of token.Upper ∷ []
sql_first s.more_assignments = comma_class ∷ []

abbrev pub sql_empty : s.SqlPart → Bool
sql_empty (s.left_tail bare l) = true
sql_empty (s.comparison_tail bare) = true
sql_empty s.qualifier = true
sql_empty s.more_selected = true
sql_empty s.alias = true
sql_empty s.more_items = true
sql_empty (s.filter bare) = true
sql_empty s.group = true
sql_empty s.more_columns = true
sql_empty s.order = true
sql_empty s.direction = true
sql_empty s.more_keys = true
sql_empty s.limit = true
sql_empty s.offset = true
sql_empty s.more_assignments = true
sql_empty _ = false

-- ---- XML

abbrev pub xml_first : x.XmlPart → Classes
xml_first x.literal = symbols (symbol.XmlOpen ∷ symbol.XmlEmpty ∷ [])
xml_first x.parts = xml_starts
xml_first x.one_part = xml_starts
xml_first x.element = symbols (symbol.Lt ∷ [])
xml_first x.element_end = symbols (symbol.TagEmpty ∷ symbol.Gt ∷ [])
xml_first x.tag = all_of token.Word ∷ []
xml_first x.tag_field = symbols (symbol.LBrace ∷ [])
xml_first x.tag_name = symbol_class symbol.Hash ∷ all_of token.Lower ∷ []
xml_first x.attrs = all_of token.Word ∷ []
xml_first x.attr = all_of token.Word ∷ []
xml_first x.attr_value = all_of token.Str ∷ symbols (symbol.LBrace ∷ [])

abbrev pub xml_empty : x.XmlPart → Bool
xml_empty x.parts = true
xml_empty x.tag_field = true
xml_empty x.attrs = true
xml_empty _ = false

-- ---- declarations

abbrev pub decl_first : d.DeclPart → Classes
decl_first d.whole = decl_starts
decl_first d.decls = decl_starts
decl_first d.decl = decl_starts
decl_first d.variant = all_of token.Upper ∷ []
decl_first d.variant_con = keyword_class keyword.Of ∷ []
decl_first d.more_variants = symbols (symbol.Bar ∷ [])
decl_first d.keys = capitals (codes "PRIMARY" ∷ codes "CONSTRAINT" ∷ [])
decl_first d.key_column = but_class token.Upper (codes "CONSTRAINT" ∷ []) ∷ []
decl_first d.key_columns = but_class token.Upper (codes "CONSTRAINT" ∷ []) ∷ symbols (symbol.LParen ∷ [])
decl_first d.more_columns = comma_class ∷ []
decl_first d.after_comma = all_of token.Upper ∷ []
decl_first d.columns_end = symbols (symbol.RParen ∷ symbol.Comma ∷ [])
decl_first d.more_constraints = comma_class ∷ []
decl_first d.constraint_head = capitals (codes "CONSTRAINT" ∷ [])
decl_first d.constraint_name = name_starts
decl_first d.definition = all_of token.Lower ∷ []
decl_first d.more_definitions = keyword_class keyword.And ∷ []
decl_first d.con_params = symbols (symbol.LBracket ∷ [])
decl_first d.params = symbols (symbol.LParen ∷ [])
decl_first d.signature = keyword_class keyword.Val ∷ []
decl_first d.val_decls = keyword_class keyword.Val ∷ []
decl_first d.val_decl = keyword_class keyword.Val ∷ []

abbrev pub decl_empty : d.DeclPart → Bool
decl_empty d.whole = true
decl_empty d.decls = true
decl_empty d.variant_con = true
decl_empty d.more_variants = true
decl_empty d.keys = true
decl_empty d.more_columns = true
decl_empty d.more_constraints = true
decl_empty d.more_definitions = true
decl_empty d.con_params = true
decl_empty d.params = true
decl_empty d.signature = true
decl_empty d.val_decls = true
decl_empty _ = false

-- ---- code as the tokens that it is

abbrev pub code_empty : code.CodePart → Bool
code_empty code.pieces = true
code_empty code.piece = false

-- ---- all

abbrev pub first : Part → Classes
first (of_con p) = con_first p
first (of_exp p) = exp_first p
first (of_sql q p) = sql_first p
first (of_xml q p) = xml_first p
first (of_decl p) = decl_first p
first (of_quote q) = code_starts
first (of_code p) = code_starts

abbrev pub empty : Part → Bool
empty (of_con p) = con_empty p
empty (of_exp p) = exp_empty p
empty (of_sql q p) = sql_empty p
empty (of_xml q p) = xml_empty p
empty (of_decl p) = decl_empty p
empty (of_quote q) = false
empty (of_code p) = code_empty p
