-- How each token is spelled.
use Rattle.std.specs.Prelude.{◌≡◌, ◌≢◌, ◌⊎◌, ℕ, ◌+◌, ◌-◌, ◌*◌, Bool, true, false, not, ◌&&◌, ◌||◌, ◌==◌, nat_le, List, [], ◌∷◌, ◌++◌, codes, fold, map}
use Rattle.std.specs.List.{list_any, list_all}
use Rattle.std.specs.Str.{bytes_eq}
use Rattle.ur_lex.specs.declared.mode.Mode.{Mode}
use Rattle.ur_lex.specs.declared.mode.Mode.TheVariants as place
use Rattle.ur_lex.specs.declared.pieces.Alphabet.{Alphabet}
use Rattle.ur_lex.specs.declared.pieces.Alphabet.TheVariants as alphabets
use Rattle.ur_lex.specs.declared.token.Keyword.{Keyword}
use Rattle.ur_lex.specs.declared.token.Keyword.TheVariants as keyword
use Rattle.ur_lex.specs.declared.token.Symbol.{Symbol}
use Rattle.ur_lex.specs.declared.token.Symbol.TheVariants as symbol
use Rattle.ur_lex.specs.declared.token.TokenKind.{TokenKind}
use Rattle.ur_lex.specs.declared.token.TokenKind.TheVariants as kind

-- text as its bytes
abbrev pub Text : Type 0
Text = List ℕ

-- how a keyword is spelled
abbrev pub keyword_text : Keyword → Text
keyword_text keyword.And = codes "and"
keyword_text keyword.Case = codes "case"
keyword_text keyword.Con = codes "con"
keyword_text keyword.Cookie = codes "cookie"
keyword_text keyword.Datatype = codes "datatype"
keyword_text keyword.Else = codes "else"
keyword_text keyword.End = codes "end"
keyword_text keyword.Fn = codes "fn"
keyword_text keyword.Fun = codes "fun"
keyword_text keyword.If = codes "if"
keyword_text keyword.In = codes "in"
keyword_text keyword.Let = codes "let"
keyword_text keyword.Of = codes "of"
keyword_text keyword.Sequence = codes "sequence"
keyword_text keyword.Table = codes "table"
keyword_text keyword.Then = codes "then"
keyword_text keyword.Type = codes "type"
keyword_text keyword.Val = codes "val"

-- all keywords
abbrev pub all_keywords : List Keyword
all_keywords = keyword.And ∷ keyword.Case ∷ keyword.Con ∷ keyword.Cookie ∷ keyword.Datatype ∷ keyword.Else ∷ keyword.End ∷ keyword.Fn ∷ keyword.Fun ∷ keyword.If ∷ keyword.In ∷ keyword.Let ∷ keyword.Of ∷ keyword.Sequence ∷ keyword.Table ∷ keyword.Then ∷ keyword.Type ∷ keyword.Val ∷ []

-- how they are spelled
abbrev pub keywords : List Text
keywords = map keyword_text all_keywords

-- how a symbol is spelled
abbrev pub symbol_text : Symbol → Text
symbol_text symbol.LParen = codes "("
symbol_text symbol.RParen = codes ")"
symbol_text symbol.LBracket = codes "["
symbol_text symbol.RBracket = codes "]"
symbol_text symbol.LBrace = codes "{"
symbol_text symbol.RBrace = codes "}"
symbol_text symbol.Comma = codes ","
symbol_text symbol.Semicolon = codes ";"
symbol_text symbol.Colon = codes ":"
symbol_text symbol.DoubleColon = codes "::"
symbol_text symbol.Eq = codes "="
symbol_text symbol.Ne = codes "<>"
symbol_text symbol.Lt = codes "<"
symbol_text symbol.Le = codes "<="
symbol_text symbol.Gt = codes ">"
symbol_text symbol.Ge = codes ">="
symbol_text symbol.Arrow = codes "->"
symbol_text symbol.FatArrow = codes "=>"
symbol_text symbol.LeftArrow = codes "<-"
symbol_text symbol.Tilde = codes "~"
symbol_text symbol.Plus = codes "+"
symbol_text symbol.Minus = codes "-"
symbol_text symbol.Star = codes "*"
symbol_text symbol.Slash = codes "/"
symbol_text symbol.Percent = codes "%"
symbol_text symbol.Caret = codes "^"
symbol_text symbol.DoublePlus = codes "++"
symbol_text symbol.DoubleMinus = codes "--"
symbol_text symbol.AndAnd = codes "&&"
symbol_text symbol.OrOr = codes "||"
symbol_text symbol.Dot = codes "."
symbol_text symbol.Hash = codes "#"
symbol_text symbol.Dollar = codes "$"
symbol_text symbol.Underscore = codes "_"
symbol_text symbol.Bar = codes "|"
symbol_text symbol.XmlOpen = codes "<xml>"
symbol_text symbol.XmlEmpty = codes "<xml/>"
symbol_text symbol.XmlClose = codes "</xml>"
symbol_text symbol.TagClose = codes "</"
symbol_text symbol.TagEmpty = codes "/>"

-- whether a symbol is a token of a mode
abbrev pub stands_in : Symbol → Mode → Bool
stands_in symbol.XmlClose place.Code = false
stands_in symbol.TagClose place.Code = false
stands_in symbol.TagEmpty place.Code = false
stands_in _ place.Code = true
stands_in symbol.LBrace place.Markup = true
stands_in symbol.Lt place.Markup = true
stands_in symbol.TagClose place.Markup = true
stands_in symbol.XmlClose place.Markup = true
stands_in _ place.Markup = false
stands_in symbol.LBrace place.Tag = true
stands_in symbol.Eq place.Tag = true
stands_in symbol.Gt place.Tag = true
stands_in symbol.TagEmpty place.Tag = true
stands_in _ place.Tag = false

-- ---- names and numbers

-- whether a text is one of these
abbrev pub is_among : List Text → Text → Bool
is_among words w = list_any (bytes_eq w) words

-- whether a byte is in a range
abbrev pub is_between : ℕ → ℕ → ℕ → Bool
is_between low high b = nat_le low b && nat_le b high

-- `a` to `z`
abbrev pub is_small : ℕ → Bool
is_small = is_between 97 122

-- `A` to `Z`
abbrev pub is_capital : ℕ → Bool
is_capital = is_between 65 90

-- `0` to `9`
abbrev pub is_digit : ℕ → Bool
is_digit = is_between 48 57

-- a letter, a digit, `_` or `'`
abbrev pub is_in_name : ℕ → Bool
is_in_name b = is_small b || is_capital b || is_digit b || b == 95 || b == 39

-- `[a-z_][A-Za-z0-9_']*`, not a keyword and not `_` alone
abbrev pub is_lower : Text → Bool
is_lower [] = false
is_lower (b ∷ w) = (is_small b || b == 95) && list_all is_in_name w && not (is_among (codes "_" ∷ keywords) (b ∷ w))

-- `[A-Z][A-Za-z0-9_']*`
abbrev pub is_upper : Text → Bool
is_upper [] = false
is_upper (b ∷ w) = is_capital b && list_all is_in_name w

-- a small letter or a digit
abbrev pub is_in_word : ℕ → Bool
is_in_word b = is_small b || is_digit b

-- `[a-z][a-z0-9]*`
abbrev pub is_word : Text → Bool
is_word [] = false
is_word (b ∷ w) = is_small b && list_all is_in_word w

-- one digit or more
abbrev pub is_number : Text → Bool
is_number [] = false
is_number (b ∷ w) = is_digit b && list_all is_digit w

-- the value of digits
abbrev pub decimal_value : Text → ℕ
decimal_value = fold (λ n b. 10 * n + (b - 48)) 0

-- ---- what stands between quotes, and in XML

-- bytes, and what they stand for, piece by piece
pub data Reads (piece : Text → Text → Type 0) : Text → Text → Type 0 where
  end : Reads piece [] []
  more : {spelled meant bytes text : Text} → piece spelled meant → Reads piece bytes text → Reads piece (spelled ++ bytes) (meant ++ text)

-- The bytes that do not stand for themselves: in a string LF, quotes and backslashes, in an sqltext LF and quotes, in a
-- tag's string LF, quotes and `&`, and in XML text `<`, `{` and `&`.
abbrev pub others : Alphabet → List ℕ
others alphabets.Str = 10 ∷ 34 ∷ 92 ∷ []
others alphabets.Sql = 10 ∷ 39 ∷ []
others alphabets.Attr = 10 ∷ 34 ∷ 38 ∷ []
others alphabets.Xml = 60 ∷ 123 ∷ 38 ∷ []

-- a byte that stands for itself
abbrev pub is_plain : Alphabet → ℕ → Bool
is_plain alphabet b = list_all (λ c. not (b == c)) (others alphabet)

-- `\"`, `\\`, `\n`, `\t`
abbrev pub escapes : List (Text × Text)
escapes = (92 ∷ 34 ∷ [], 34 ∷ []) ∷ (92 ∷ 92 ∷ [], 92 ∷ []) ∷ (92 ∷ 110 ∷ [], 10 ∷ []) ∷ (92 ∷ 116 ∷ [], 9 ∷ []) ∷ []

-- the last is U+00A0
abbrev pub entities : List (Text × Text)
entities = (codes "&amp;", codes "&") ∷ (codes "&lt;", codes "<") ∷ (codes "&gt;", codes ">") ∷ (codes "&quot;", 34 ∷ []) ∷ (codes "&nbsp;", 194 ∷ 160 ∷ []) ∷ []

-- the texts that stand for others
abbrev pub table : Alphabet → List (Text × Text)
table alphabets.Str = escapes
table alphabets.Sql = (39 ∷ 39 ∷ [], 39 ∷ []) ∷ []
table alphabets.Attr = entities
table alphabets.Xml = entities

-- a text that stands for another, by a table
abbrev pub IsOneOf : List (Text × Text) → Text → Text → Type 0
IsOneOf [] spelled meant = ⊥
IsOneOf (p ∷ ps) spelled meant = ((spelled ≡ p.0) × (meant ≡ p.1)) ⊎ IsOneOf ps spelled meant

-- a piece: a byte that stands for itself, or a text that stands for another
abbrev pub IsPiece : Alphabet → Text → Text → Type 0
IsPiece alphabet spelled meant = ((b : ℕ) × (is_plain alphabet b ≡ true) × (spelled ≡ b ∷ []) × (meant ≡ b ∷ [])) ⊎ IsOneOf (table alphabet) spelled meant

-- ---- the spelling of a token

-- between two quotes stand pieces, and the content is what they stand for
abbrev pub IsQuoted : ℕ → Alphabet → Text → Text → Type 0
IsQuoted quote alphabet content bytes = (inner : Text) × (bytes ≡ quote ∷ inner ++ quote ∷ []) × Reads (IsPiece alphabet) inner content

-- A token of this kind and content is spelled so in this mode. An int may have any value here.
abbrev pub IsSpelled : Mode → TokenKind → Text → Text → Type 0
IsSpelled place.Code kind.Lower content bytes = (bytes ≡ content) × (is_lower bytes ≡ true)
IsSpelled place.Code kind.Upper content bytes = (bytes ≡ content) × (is_upper bytes ≡ true)
IsSpelled place.Code (kind.Int n) content bytes = (bytes ≡ content) × (is_number bytes ≡ true) × (n ≡ decimal_value bytes)
IsSpelled place.Code kind.Str content bytes = IsQuoted 34 alphabets.Str content bytes
IsSpelled place.Code kind.SqlText content bytes = IsQuoted 39 alphabets.Sql content bytes
IsSpelled place.Code (kind.Keyword k) content bytes = (bytes ≡ content) × (bytes ≡ keyword_text k)
IsSpelled place.Markup kind.XmlText content bytes = (bytes ≢ []) × Reads (IsPiece alphabets.Xml) bytes content
IsSpelled place.Tag kind.Word content bytes = (bytes ≡ content) × (is_word bytes ≡ true)
IsSpelled place.Tag kind.Str content bytes = IsQuoted 34 alphabets.Attr content bytes
IsSpelled mode (kind.Symbol s) content bytes = (bytes ≡ content) × (bytes ≡ symbol_text s) × (stands_in s mode ≡ true)
IsSpelled _ _ _ _ = ⊥
