-- What expressions begin with.
use Rattle.std.specs.Prelude.{ℕ, Bool, true, false, List}
use Rattle.ur_lex.specs.declared.token.Keyword.{Keyword}
use Rattle.ur_lex.specs.declared.token.Keyword.TheVariants as keyword
use Rattle.ur_lex.specs.declared.token.Symbol.{Symbol}
use Rattle.ur_lex.specs.declared.token.Symbol.TheVariants as symbol
use Rattle.ur_lex.specs.declared.token.TokenKind.{TokenKind}
use Rattle.ur_lex.specs.declared.token.TokenKind.TheVariants as token
use Rattle.ur_lex.specs.declared.token.Lexeme.{Lexeme}
use Rattle.ur_lex.specs.Spelling.{Text}
use Rattle.ur_parse_rules.specs.Places.{Other, OfKind}
use Rattle.ur_parse_rules.specs.Words.{is_name}

-- the symbols that open an atom, but `[`
abbrev pub opens : Symbol → Bool
opens symbol.LParen = true
opens symbol.LBrace = true
opens symbol.XmlOpen = true
opens symbol.XmlEmpty = true
opens _ = false

abbrev pub opens_let : Keyword → Bool
opens_let keyword.Let = true
opens_let _ = false

-- whether an atom begins with a token, but a word in capitals or `[]`
abbrev pub begins_base : Bool → TokenKind → Text → Bool
begins_base first (token.Int n) w = true
begins_base first token.Str w = true
begins_base first token.Lower w = is_name first w
begins_base first (token.Keyword k) w = opens_let k
begins_base first (token.Symbol s) w = opens s
begins_base first _ w = false

-- whether a symbol opens an atom
abbrev pub opens_post : Symbol → Bool
opens_post symbol.LBracket = true
opens_post s = opens s

-- whether an atom with the names of fields behind it begins with a token
abbrev pub begins_post : Bool → TokenKind → Text → Bool
begins_post first token.Upper w = is_name first w
begins_post first (token.Symbol s) w = opens_post s
begins_post first k w = begins_base first k w

-- whether an argument does
abbrev pub begins_argument : TokenKind → Bool
begins_argument (token.Int n) = true
begins_argument token.Str = true
begins_argument token.Lower = true
begins_argument token.Upper = true
begins_argument (token.Keyword k) = opens_let k
begins_argument (token.Symbol s) = opens_post s
begins_argument _ = false

-- nothing stands at the place that opens an atom over other expressions
pub record NoneOpens (tokens : List Lexeme) (i : ℕ) : Type 0 where
  pub paren : Other tokens i (OfKind (token.Symbol symbol.LParen))
  pub brace : Other tokens i (OfKind (token.Symbol symbol.LBrace))
  pub value : Other tokens i (OfKind (token.Keyword keyword.Let))
  pub xml : Other tokens i (OfKind (token.Symbol symbol.XmlOpen))
  pub empty : Other tokens i (OfKind (token.Symbol symbol.XmlEmpty))
