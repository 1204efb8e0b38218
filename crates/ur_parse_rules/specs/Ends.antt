-- Which tokens go on behind a tree. A tree of a nonterminal ends only before a token that does not.
use Rattle.std.specs.Prelude.{Bool, true, false, ◌||◌, ◌&&◌, List, [], ◌∷◌, ◌++◌, codes, map, Option, Some, None}
use Rattle.ur_lex.specs.declared.token.Keyword.{Keyword}
use Rattle.ur_lex.specs.declared.token.Keyword.TheVariants as keyword
use Rattle.ur_lex.specs.declared.token.Symbol.{Symbol}
use Rattle.ur_lex.specs.declared.token.Symbol.TheVariants as symbol
use Rattle.ur_lex.specs.declared.token.TokenKind.{TokenKind}
use Rattle.ur_lex.specs.declared.token.TokenKind.TheVariants as token
use Rattle.ur_lex.specs.Spelling.{Text}
use Rattle.ur_parse_rules.specs.Classes.{Class, Classes, member, all_of, symbol_class, keyword_class, word_class}
use Rattle.ur_parse_rules.specs.Words.{free_test}
use Rattle.ur_parse_rules.specs.KindNumbers.{kind_number}
use Rattle.ur_parse_rules.specs.ConParts as c
use Rattle.ur_parse_rules.specs.ExpParts as e
use Rattle.ur_parse_rules.specs.SqlParts as s
use Rattle.ur_parse_rules.specs.XmlParts as x
use Rattle.ur_parse_rules.specs.DeclParts as d
use Rattle.ur_parse_rules.specs.CodeParts as code
use Rattle.ur_parse_rules.specs.Parts.{Part, of_con, of_exp, of_sql, of_xml, of_decl, of_quote, of_code, Tree, ExpTree, Ended}
use Rattle.ur_parse_rules.specs.Constructors.{keys_of}

abbrev pub symbols : List Symbol → Classes
symbols = map symbol_class

abbrev pub keywords : List Keyword → Classes
keywords = map keyword_class

-- words in capitals
abbrev pub capitals : List Text → Classes
capitals = map (word_class token.Upper)

-- ---- constructors

-- what an argument begins with
abbrev pub con_args : Bool → Classes
con_args keys = all_of token.Lower ∷ record { kind = kind_number token.Upper; test = free_test keys } ∷ symbols (symbol.Hash ∷ symbol.LBracket ∷ symbol.LBrace ∷ symbol.Dollar ∷ symbol.LParen ∷ [])

abbrev pub con_more : Bool → Classes
con_more keys = symbols (symbol.Arrow ∷ symbol.DoublePlus ∷ []) ++ con_args keys

abbrev pub con_last : c.ConPart → Classes
con_last c.kind = symbols (symbol.Arrow ∷ [])
con_last c.kind_tail = symbols (symbol.Arrow ∷ [])
con_last (c.con place) = con_more (keys_of place)
con_last (c.arrow keys) = con_more keys
con_last (c.arrow_tail keys) = con_more keys
con_last (c.concat keys) = symbol_class symbol.DoublePlus ∷ con_args keys
con_last (c.concat_tail keys) = symbol_class symbol.DoublePlus ∷ con_args keys
con_last (c.app keys) = con_args keys
con_last (c.args keys) = con_args keys
con_last c.row_field = symbol_class symbol.Eq ∷ con_more false
con_last c.row_value = symbol_class symbol.Eq ∷ con_more false
con_last c.record_field = con_more false
con_last _ = []

-- ---- expressions

-- what an argument begins with
abbrev pub exp_args : Classes
exp_args = all_of (token.Int 0) ∷ all_of token.Str ∷ all_of token.Lower ∷ all_of token.Upper ∷ keyword_class keyword.Let ∷ symbols (symbol.LParen ∷ symbol.LBracket ∷ symbol.LBrace ∷ symbol.XmlOpen ∷ symbol.XmlEmpty ∷ [])

abbrev pub dot_class : Class
dot_class = symbol_class symbol.Dot

-- what goes on behind an application, and then operators from tight to loose
abbrev pub app_more : Classes
app_more = dot_class ∷ exp_args

abbrev pub product_more : Classes
product_more = symbols (symbol.Star ∷ symbol.Slash ∷ symbol.Percent ∷ []) ++ app_more

abbrev pub sum_more : Classes
sum_more = symbols (symbol.Plus ∷ symbol.Minus ∷ []) ++ product_more

abbrev pub append_more : Classes
append_more = symbols (symbol.Caret ∷ symbol.DoublePlus ∷ symbol.DoubleMinus ∷ []) ++ sum_more

abbrev pub cons_more : Classes
cons_more = symbol_class symbol.DoubleColon ∷ append_more

abbrev pub comparison_more : Classes
comparison_more = symbols (symbol.Eq ∷ symbol.Ne ∷ symbol.Lt ∷ symbol.Le ∷ symbol.Gt ∷ symbol.Ge ∷ []) ++ cons_more

abbrev pub conjunction_more : Classes
conjunction_more = symbol_class symbol.AndAnd ∷ comparison_more

abbrev pub operators : Classes
operators = symbol_class symbol.OrOr ∷ conjunction_more

abbrev pub level_more : e.Level → Classes
level_more e.disjunction = operators
level_more e.conjunction = conjunction_more
level_more e.append = append_more
level_more e.sum = sum_more
level_more e.product = product_more

abbrev pub operand_more : e.Level → Classes
operand_more e.disjunction = conjunction_more
operand_more e.conjunction = comparison_more
operand_more e.append = sum_more
operand_more e.sum = product_more
operand_more e.product = app_more

abbrev pub binder_starts : Classes
binder_starts = symbol_class symbol.Underscore ∷ all_of token.Lower ∷ []

-- where an expression takes a `;`, also `<-` is refused behind it, which stands behind a name alone
abbrev pub semicolon : TokenKind → Text → Bool
semicolon = member (symbols (symbol.Semicolon ∷ symbol.LeftArrow ∷ []))

abbrev pub bar : TokenKind → Text → Bool
bar = member (symbols (symbol.Bar ∷ []))

-- what may go on at all, whatever the tree
abbrev pub exp_last : e.ExpPart → Classes
exp_last e.exp = symbols (symbol.Semicolon ∷ symbol.LeftArrow ∷ symbol.Bar ∷ []) ++ operators
exp_last e.rest = symbols (symbol.Semicolon ∷ symbol.LeftArrow ∷ symbol.Bar ∷ []) ++ operators
exp_last e.line = symbols (symbol.Semicolon ∷ symbol.LeftArrow ∷ symbol.Bar ∷ []) ++ operators
exp_last e.lambda = symbols (symbol.Semicolon ∷ symbol.LeftArrow ∷ symbol.Bar ∷ []) ++ operators
exp_last e.branches = symbols (symbol.Semicolon ∷ symbol.LeftArrow ∷ symbol.Bar ∷ []) ++ operators
exp_last e.more_branches = symbols (symbol.Semicolon ∷ symbol.LeftArrow ∷ symbol.Bar ∷ []) ++ operators
exp_last e.bar = symbols (symbol.Bar ∷ [])
exp_last (e.left l) = level_more l
exp_last (e.left_tail l) = level_more l
exp_last (e.operand l) = operand_more l
exp_last (e.left_step l) = operand_more l
exp_last e.comparison = comparison_more
exp_last e.comparison_tail = comparison_more
exp_last e.cons = cons_more
exp_last e.cons_tail = cons_more
exp_last e.negative = app_more
exp_last e.app = app_more
exp_last e.args = app_more
exp_last e.arg = dot_class ∷ []
exp_last e.bracketed = dot_class ∷ []
exp_last e.head = dot_class ∷ []
exp_last (e.post first) = dot_class ∷ []
exp_last e.capital_rest = dot_class ∷ []
exp_last e.dots = dot_class ∷ []
exp_last e.field = symbols (symbol.Semicolon ∷ symbol.LeftArrow ∷ symbol.Bar ∷ []) ++ operators
exp_last e.let_val = symbols (symbol.Semicolon ∷ symbol.LeftArrow ∷ symbol.Bar ∷ []) ++ operators
exp_last e.let_vals = keyword_class keyword.Val ∷ symbols (symbol.Semicolon ∷ symbol.LeftArrow ∷ symbol.Bar ∷ []) ++ operators
exp_last e.lambda_params = symbols (symbol.LParen ∷ symbol.LBracket ∷ []) ++ binder_starts
exp_last e.pat = symbols (symbol.DoubleColon ∷ symbol.Dot ∷ []) ++ binder_starts
exp_last e.pat_cons = symbols (symbol.DoubleColon ∷ [])
exp_last e.pat_rest = dot_class ∷ binder_starts
exp_last e.pat_argument = binder_starts
exp_last _ = []

-- behind an expression that ends with a lambda or a `case` also a `;`, behind the latter also a `|`
abbrev pub line_more : Ended → TokenKind → Text → Bool
line_more a k w = member operators k w || ((semicolon k w && a.takes_semicolon) || (bar k w && a.takes_bar))

abbrev pub exp_more : Ended → TokenKind → Text → Bool
exp_more a k w = member operators k w || (semicolon k w || (bar k w && a.takes_bar))

abbrev pub rest_more : Option Ended → TokenKind → Text → Bool
rest_more None = semicolon
rest_more (Some a) = exp_more a

abbrev pub branches_more : TokenKind → Text → Bool
branches_more k w = member operators k w || (semicolon k w || bar k w)

abbrev pub more_exps : (p : e.ExpPart) → ExpTree p → TokenKind → Text → Bool
more_exps e.exp a = exp_more a
more_exps e.rest a = rest_more a
more_exps e.line a = line_more a
more_exps e.lambda a = line_more a
more_exps e.branches bs = branches_more
more_exps e.more_branches bs = branches_more
more_exps p a = member (exp_last p)

-- ---- SQL

abbrev pub sql_atom : Bool → Classes
sql_atom true = dot_class ∷ []
sql_atom false = []

abbrev pub sql_product : Bool → Classes
sql_product bare = symbol_class symbol.Star ∷ sql_atom bare

abbrev pub sql_sum : Bool → Classes
sql_sum bare = symbols (symbol.Plus ∷ symbol.Minus ∷ []) ++ sql_product bare

abbrev pub sql_comparison : Bool → Classes
sql_comparison bare = symbols (symbol.Eq ∷ symbol.Ne ∷ symbol.Lt ∷ symbol.Le ∷ symbol.Gt ∷ symbol.Ge ∷ []) ++ capitals (codes "IS" ∷ []) ++ sql_sum bare

abbrev pub sql_conjunction : Bool → Classes
sql_conjunction bare = capitals (codes "AND" ∷ []) ++ sql_comparison bare

abbrev pub sql_operators : Bool → Classes
sql_operators bare = capitals (codes "OR" ∷ []) ++ sql_conjunction bare

abbrev pub sql_level : Bool → s.SqlLevel → Classes
sql_level bare s.disjunction = sql_operators bare
sql_level bare s.conjunction = sql_conjunction bare
sql_level bare s.sum = sql_sum bare
sql_level bare s.product = sql_product bare

abbrev pub sql_operand : Bool → s.SqlLevel → Classes
sql_operand bare s.disjunction = sql_conjunction bare
sql_operand bare s.conjunction = sql_comparison bare
sql_operand bare s.sum = sql_product bare
sql_operand bare s.product = sql_atom bare

abbrev pub comma_class : Class
comma_class = symbol_class symbol.Comma

abbrev pub sql_last : s.SqlPart → Classes
sql_last (s.sexp bare) = sql_operators bare
sql_last (s.left bare l) = sql_level bare l
sql_last (s.left_tail bare l) = sql_level bare l
sql_last (s.operand bare l) = sql_operand bare l
sql_last (s.left_step bare l) = sql_operand bare l
sql_last (s.negation bare) = sql_comparison bare
sql_last (s.comparison bare) = sql_comparison bare
sql_last (s.comparison_tail bare) = sql_comparison bare
sql_last (s.negative bare) = sql_atom bare
sql_last (s.atom bare) = sql_atom bare
sql_last (s.column bare) = sql_atom bare
sql_last s.qualifier = dot_class ∷ []
sql_last s.query = comma_class ∷ capitals (codes "AS" ∷ codes "JOIN" ∷ codes "WHERE" ∷ codes "GROUP" ∷ codes "ORDER" ∷ codes "ASC" ∷ codes "DESC" ∷ codes "LIMIT" ∷ codes "OFFSET" ∷ []) ++ sql_operators false
sql_last s.selection = comma_class ∷ capitals (codes "AS" ∷ []) ++ sql_operators false
sql_last s.selected = capitals (codes "AS" ∷ []) ++ sql_operators false
sql_last s.more_selected = comma_class ∷ capitals (codes "AS" ∷ []) ++ sql_operators false
sql_last s.item = capitals (codes "AS" ∷ [])
sql_last s.alias = capitals (codes "AS" ∷ [])
sql_last s.more_items = comma_class ∷ capitals (codes "AS" ∷ codes "JOIN" ∷ []) ++ sql_operators false
sql_last (s.filter bare) = capitals (codes "WHERE" ∷ []) ++ sql_operators bare
sql_last s.group = comma_class ∷ capitals (codes "GROUP" ∷ [])
sql_last s.more_columns = comma_class ∷ []
sql_last s.order = comma_class ∷ capitals (codes "ORDER" ∷ codes "ASC" ∷ codes "DESC" ∷ []) ++ sql_operators false
sql_last s.order_key = capitals (codes "ASC" ∷ codes "DESC" ∷ []) ++ sql_operators false
sql_last s.direction = capitals (codes "ASC" ∷ codes "DESC" ∷ [])
sql_last s.more_keys = comma_class ∷ capitals (codes "ASC" ∷ codes "DESC" ∷ []) ++ sql_operators false
sql_last s.limit = capitals (codes "LIMIT" ∷ [])
sql_last s.offset = capitals (codes "OFFSET" ∷ [])
sql_last s.change = comma_class ∷ capitals (codes "WHERE" ∷ []) ++ sql_operators true
sql_last s.assignment = sql_operators true
sql_last s.more_assignments = comma_class ∷ sql_operators true
sql_last _ = []

-- ---- XML

abbrev pub xml_starts : Classes
xml_starts = all_of token.XmlText ∷ symbols (symbol.LBrace ∷ symbol.Lt ∷ [])

abbrev pub xml_last : x.XmlPart → Classes
xml_last x.parts = xml_starts
xml_last x.tag = symbols (symbol.LBrace ∷ [])
xml_last x.tag_field = symbols (symbol.LBrace ∷ [])
xml_last x.attrs = all_of token.Word ∷ []
xml_last _ = []

-- ---- declarations

abbrev pub decl_starts : Classes
decl_starts = keywords (keyword.Con ∷ keyword.Type ∷ keyword.Datatype ∷ keyword.Table ∷ keyword.Sequence ∷ keyword.Cookie ∷ keyword.Val ∷ keyword.Fun ∷ [])

abbrev pub exp_ends : Classes
exp_ends = exp_last e.exp

abbrev pub decl_ends : Classes
decl_ends = comma_class ∷ keywords (keyword.And ∷ keyword.Of ∷ []) ++ symbols (symbol.Arrow ∷ symbol.Hash ∷ symbol.Dollar ∷ []) ++ exp_ends

abbrev pub decl_last : d.DeclPart → Classes
decl_last d.whole = decl_starts ++ decl_ends
decl_last d.decls = decl_starts ++ decl_ends
decl_last d.decl = decl_ends
decl_last d.variant = keyword_class keyword.Of ∷ con_more false
decl_last d.variant_con = keyword_class keyword.Of ∷ con_more false
decl_last d.more_variants = symbol_class symbol.Bar ∷ keyword_class keyword.Of ∷ con_more false
decl_last d.keys = comma_class ∷ capitals (codes "PRIMARY" ∷ codes "CONSTRAINT" ∷ [])
decl_last d.key_columns = comma_class ∷ []
decl_last d.more_columns = comma_class ∷ []
decl_last d.after_comma = comma_class ∷ []
decl_last d.more_constraints = comma_class ∷ []
decl_last d.definition = exp_ends
decl_last d.more_definitions = keyword_class keyword.And ∷ exp_ends
decl_last d.con_params = symbols (symbol.LBracket ∷ [])
decl_last d.params = symbols (symbol.LParen ∷ [])
decl_last d.signature = keyword_class keyword.Val ∷ con_more false
decl_last d.val_decls = keyword_class keyword.Val ∷ con_more false
decl_last d.val_decl = con_more false
decl_last _ = []

-- ---- code as the tokens that it is

-- the kinds of tokens but brackets
abbrev pub plain_kinds : List TokenKind
plain_kinds = token.Int 0 ∷ token.Lower ∷ token.Upper ∷ token.Str ∷ token.SqlText ∷ token.XmlText ∷ token.Word ∷ token.Keyword keyword.And ∷ token.Keyword keyword.Case ∷ token.Keyword keyword.Con
    ∷ token.Keyword keyword.Cookie ∷ token.Keyword keyword.Datatype ∷ token.Keyword keyword.Else ∷ token.Keyword keyword.End ∷ token.Keyword keyword.Fn ∷ token.Keyword keyword.Fun
    ∷ token.Keyword keyword.If ∷ token.Keyword keyword.In ∷ token.Keyword keyword.Let ∷ token.Keyword keyword.Of ∷ token.Keyword keyword.Sequence ∷ token.Keyword keyword.Table
    ∷ token.Keyword keyword.Then ∷ token.Keyword keyword.Type ∷ token.Keyword keyword.Val ∷ token.Symbol symbol.Comma ∷ token.Symbol symbol.Semicolon ∷ token.Symbol symbol.Colon
    ∷ token.Symbol symbol.DoubleColon ∷ token.Symbol symbol.Eq ∷ token.Symbol symbol.Ne ∷ token.Symbol symbol.Lt ∷ token.Symbol symbol.Le ∷ token.Symbol symbol.Gt ∷ token.Symbol symbol.Ge
    ∷ token.Symbol symbol.Arrow ∷ token.Symbol symbol.FatArrow ∷ token.Symbol symbol.LeftArrow ∷ token.Symbol symbol.Tilde ∷ token.Symbol symbol.Plus ∷ token.Symbol symbol.Minus
    ∷ token.Symbol symbol.Star ∷ token.Symbol symbol.Slash ∷ token.Symbol symbol.Percent ∷ token.Symbol symbol.Caret ∷ token.Symbol symbol.DoublePlus ∷ token.Symbol symbol.DoubleMinus
    ∷ token.Symbol symbol.AndAnd ∷ token.Symbol symbol.OrOr ∷ token.Symbol symbol.Dot ∷ token.Symbol symbol.Hash ∷ token.Symbol symbol.Dollar ∷ token.Symbol symbol.Underscore
    ∷ token.Symbol symbol.Bar ∷ token.Symbol symbol.XmlOpen ∷ token.Symbol symbol.XmlEmpty ∷ token.Symbol symbol.XmlClose ∷ token.Symbol symbol.TagClose ∷ token.Symbol symbol.TagEmpty
    ∷ []

abbrev pub code_starts : Classes
code_starts = symbols (symbol.LParen ∷ symbol.LBracket ∷ symbol.LBrace ∷ []) ++ map all_of plain_kinds

abbrev pub code_last : code.CodePart → Classes
code_last code.pieces = code_starts
code_last code.piece = []

abbrev pub more : (p : Part) → Tree p → TokenKind → Text → Bool
more (of_con p) a = member (con_last p)
more (of_exp p) a = more_exps p a
more (of_sql q p) a = member (sql_last p)
more (of_xml q p) a = member (xml_last p)
more (of_decl p) a = member (decl_last p)
more (of_quote q) a = member code_starts
more (of_code p) a = member (code_last p)
