-- Ints at a place of the tokens.
use Rattle.std.specs.Prelude.{◌≡◌, ◌+◌, ℕ, List, Option, Some, None}
use Rattle.ur_lex.specs.declared.token.TokenKind.{TokenKind}
use Rattle.ur_lex.specs.declared.token.TokenKind.TheVariants as token
use Rattle.ur_lex.specs.declared.token.Lexeme.{Lexeme}
use Rattle.ur_parse_rules.specs.Places.{IsAt, Other, OfKind}

-- the value of an int
abbrev pub int_of : TokenKind → Option ℕ
int_of (token.Int n) = Some n
int_of _ = None

-- the token is an int
abbrev pub IsInt : Lexeme → Type 0
IsInt t = (n : ℕ) × (t.kind ≡ token.Int n)

-- the int at the place, or none stands there
abbrev pub SeesInt : List Lexeme → ℕ → Option ℕ → Type 0
SeesInt tokens i None = Other tokens i IsInt
SeesInt tokens i (Some n) = IsAt tokens i (i + 1) (OfKind (token.Int n))
