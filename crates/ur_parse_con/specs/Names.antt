-- What arguments begin with.
use Rattle.std.specs.Prelude.{ℕ, Bool, true, false, List}
use Rattle.ur_lex.specs.declared.token.Symbol.{Symbol}
use Rattle.ur_lex.specs.declared.token.Symbol.TheVariants as symbol
use Rattle.ur_lex.specs.declared.token.TokenKind.{TokenKind}
use Rattle.ur_lex.specs.declared.token.TokenKind.TheVariants as token
use Rattle.ur_lex.specs.declared.token.Lexeme.{Lexeme}
use Rattle.ur_lex.specs.Spelling.{Text}
use Rattle.ur_parse_rules.specs.Words.{is_free}
use Rattle.ur_parse_rules.specs.Places.{Other, OfKind}

-- whether an argument begins with a symbol
abbrev pub begins_symbol : Symbol → Bool
begins_symbol symbol.Hash = true
begins_symbol symbol.LBracket = true
begins_symbol symbol.LBrace = true
begins_symbol symbol.Dollar = true
begins_symbol symbol.LParen = true
begins_symbol _ = false

-- whether it begins with a token
abbrev pub begins_argument : Bool → TokenKind → Text → Bool
begins_argument keys token.Lower w = true
begins_argument keys token.Upper w = is_free keys w
begins_argument keys (token.Symbol s) w = begins_symbol s
begins_argument keys _ w = false

-- no symbol that opens a constructor stands at the place, nor `$`
pub record NoneOpens (tokens : List Lexeme) (i : ℕ) : Type 0 where
  pub bracket : Other tokens i (OfKind (token.Symbol symbol.LBracket))
  pub brace : Other tokens i (OfKind (token.Symbol symbol.LBrace))
  pub dollar : Other tokens i (OfKind (token.Symbol symbol.Dollar))
  pub parenthesis : Other tokens i (OfKind (token.Symbol symbol.LParen))
