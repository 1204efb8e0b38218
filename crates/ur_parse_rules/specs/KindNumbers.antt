-- Kinds of tokens told apart by a number, ints of any value having one.
use Rattle.std.specs.Prelude.{ℕ, Bool, false, ◌||◌, ◌==◌, List, [], ◌∷◌}
use Rattle.ur_lex.specs.declared.token.Keyword.{Keyword}
use Rattle.ur_lex.specs.declared.token.Keyword.TheVariants as keyword
use Rattle.ur_lex.specs.declared.token.Symbol.{Symbol}
use Rattle.ur_lex.specs.declared.token.Symbol.TheVariants as symbol
use Rattle.ur_lex.specs.declared.token.TokenKind.{TokenKind}
use Rattle.ur_lex.specs.declared.token.TokenKind.TheVariants as token

abbrev pub keyword_number : Keyword → ℕ
keyword_number keyword.And = 6
keyword_number keyword.Case = 7
keyword_number keyword.Con = 8
keyword_number keyword.Cookie = 9
keyword_number keyword.Datatype = 10
keyword_number keyword.Else = 11
keyword_number keyword.End = 12
keyword_number keyword.Fn = 13
keyword_number keyword.Fun = 14
keyword_number keyword.If = 15
keyword_number keyword.In = 16
keyword_number keyword.Let = 17
keyword_number keyword.Of = 18
keyword_number keyword.Sequence = 19
keyword_number keyword.Table = 20
keyword_number keyword.Then = 21
keyword_number keyword.Type = 22
keyword_number keyword.Val = 23

abbrev pub symbol_number : Symbol → ℕ
symbol_number symbol.LParen = 24
symbol_number symbol.RParen = 25
symbol_number symbol.LBracket = 26
symbol_number symbol.RBracket = 27
symbol_number symbol.LBrace = 28
symbol_number symbol.RBrace = 29
symbol_number symbol.Comma = 30
symbol_number symbol.Semicolon = 31
symbol_number symbol.Colon = 32
symbol_number symbol.DoubleColon = 33
symbol_number symbol.Eq = 34
symbol_number symbol.Ne = 35
symbol_number symbol.Lt = 36
symbol_number symbol.Le = 37
symbol_number symbol.Gt = 38
symbol_number symbol.Ge = 39
symbol_number symbol.Arrow = 40
symbol_number symbol.FatArrow = 41
symbol_number symbol.LeftArrow = 42
symbol_number symbol.Tilde = 43
symbol_number symbol.Plus = 44
symbol_number symbol.Minus = 45
symbol_number symbol.Star = 46
symbol_number symbol.Slash = 47
symbol_number symbol.Percent = 48
symbol_number symbol.Caret = 49
symbol_number symbol.DoublePlus = 50
symbol_number symbol.DoubleMinus = 51
symbol_number symbol.AndAnd = 52
symbol_number symbol.OrOr = 53
symbol_number symbol.Dot = 54
symbol_number symbol.Hash = 55
symbol_number symbol.Dollar = 56
symbol_number symbol.Underscore = 57
symbol_number symbol.Bar = 58
symbol_number symbol.XmlOpen = 59
symbol_number symbol.XmlEmpty = 60
symbol_number symbol.XmlClose = 61
symbol_number symbol.TagClose = 62
symbol_number symbol.TagEmpty = 63

abbrev pub kind_number : TokenKind → ℕ
kind_number token.Lower = 0
kind_number token.Upper = 1
kind_number token.Str = 2
kind_number token.SqlText = 3
kind_number token.XmlText = 4
kind_number token.Word = 5
kind_number (token.Keyword k) = keyword_number k
kind_number (token.Symbol s) = symbol_number s
kind_number (token.Int n) = 64

-- all kinds but ints, in the order of their numbers
abbrev pub all_kinds : List TokenKind
all_kinds = token.Lower ∷ token.Upper ∷ token.Str ∷ token.SqlText ∷ token.XmlText ∷ token.Word ∷ token.Keyword keyword.And ∷ token.Keyword keyword.Case ∷ token.Keyword keyword.Con ∷ token.Keyword keyword.Cookie ∷ token.Keyword keyword.Datatype ∷ token.Keyword keyword.Else ∷ token.Keyword keyword.End ∷ token.Keyword keyword.Fn ∷ token.Keyword keyword.Fun ∷ token.Keyword keyword.If ∷ token.Keyword keyword.In ∷ token.Keyword keyword.Let ∷ token.Keyword keyword.Of ∷ token.Keyword keyword.Sequence ∷ token.Keyword keyword.Table ∷ token.Keyword keyword.Then ∷ token.Keyword keyword.Type ∷ token.Keyword keyword.Val ∷ token.Symbol symbol.LParen ∷ token.Symbol symbol.RParen ∷ token.Symbol symbol.LBracket ∷ token.Symbol symbol.RBracket ∷ token.Symbol symbol.LBrace ∷ token.Symbol symbol.RBrace ∷ token.Symbol symbol.Comma ∷ token.Symbol symbol.Semicolon ∷ token.Symbol symbol.Colon ∷ token.Symbol symbol.DoubleColon ∷ token.Symbol symbol.Eq ∷ token.Symbol symbol.Ne ∷ token.Symbol symbol.Lt ∷ token.Symbol symbol.Le ∷ token.Symbol symbol.Gt ∷ token.Symbol symbol.Ge ∷ token.Symbol symbol.Arrow ∷ token.Symbol symbol.FatArrow ∷ token.Symbol symbol.LeftArrow ∷ token.Symbol symbol.Tilde ∷ token.Symbol symbol.Plus ∷ token.Symbol symbol.Minus ∷ token.Symbol symbol.Star ∷ token.Symbol symbol.Slash ∷ token.Symbol symbol.Percent ∷ token.Symbol symbol.Caret ∷ token.Symbol symbol.DoublePlus ∷ token.Symbol symbol.DoubleMinus ∷ token.Symbol symbol.AndAnd ∷ token.Symbol symbol.OrOr ∷ token.Symbol symbol.Dot ∷ token.Symbol symbol.Hash ∷ token.Symbol symbol.Dollar ∷ token.Symbol symbol.Underscore ∷ token.Symbol symbol.Bar ∷ token.Symbol symbol.XmlOpen ∷ token.Symbol symbol.XmlEmpty ∷ token.Symbol symbol.XmlClose ∷ token.Symbol symbol.TagClose ∷ token.Symbol symbol.TagEmpty ∷ []

-- whether two kinds are the same, ints of any value being one
abbrev pub same_kind : TokenKind → TokenKind → Bool
same_kind a b = kind_number a == kind_number b

-- whether a kind is one of these
abbrev pub is_one : List TokenKind → TokenKind → Bool
is_one [] k = false
is_one (a ∷ as_) k = same_kind a k || is_one as_ k
