-- Brackets, and where code goes on.
use Rattle.std.specs.Prelude.{ℕ, Bool, true, false, not, List}
use Rattle.ur_base.specs.declared.refusal.Refusal.{Refusal}
use Rattle.ur_lex.specs.declared.token.Symbol.{Symbol}
use Rattle.ur_lex.specs.declared.token.Symbol.TheVariants as symbol
use Rattle.ur_lex.specs.declared.token.TokenKind.{TokenKind}
use Rattle.ur_lex.specs.declared.token.TokenKind.TheVariants as token
use Rattle.ur_lex.specs.declared.token.Lexeme.{Lexeme}
use Rattle.ur_parse_rules.specs.Places.{IsAt, Unexpected, OfKind, Reads, Refuses}
use Rattle.ur_parse_rules.specs.CodeParts.{pieces}
use Rattle.ur_parse_rules.specs.Parts.{of_code}
use Rattle.ur_parse_rules.specs.Language.{language}

abbrev pub closes : Symbol → Bool
closes symbol.RParen = true
closes symbol.RBracket = true
closes symbol.RBrace = true
closes _ = false

abbrev pub is_bracket : Symbol → Bool
is_bracket symbol.LParen = true
is_bracket symbol.LBracket = true
is_bracket symbol.LBrace = true
is_bracket s = closes s

-- whether code goes on with a token
abbrev pub is_code : TokenKind → Bool
is_code (token.Symbol s) = not (closes s)
is_code _ = true

-- whether a token is no bracket
abbrev pub is_plain : TokenKind → Bool
is_plain (token.Symbol s) = not (is_bracket s)
is_plain _ = true

-- pieces up to a bracket that closes them
pub record Closed (tokens : List Lexeme) (i j : ℕ) (close : Symbol) : Type 0 where
  pub middle : ℕ
  pub inner : List Lexeme
  pub read : (n : ℕ) → Reads language n tokens i middle (of_code pieces) inner
  pub closed : IsAt tokens middle j (OfKind (token.Symbol close))

-- why there are none: they are refused, or another token stands behind them
pub data NotClosed (tokens : List Lexeme) (i : ℕ) (close : Symbol) (r : Refusal) : Type 0 where
  refused : ((n : ℕ) → Refuses language n tokens i (of_code pieces) r) → NotClosed tokens i close r
  unclosed : (middle : ℕ) (inner : List Lexeme) → ((n : ℕ) → Reads language n tokens i middle (of_code pieces) inner) → Unexpected tokens middle (OfKind (token.Symbol close)) r → NotClosed tokens i close r
