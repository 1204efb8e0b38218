-- Signs before an expression.
use Rattle.std.specs.Prelude.{ℕ, List}
use Rattle.ur_lex.specs.declared.token.Symbol.TheVariants as symbol
use Rattle.ur_lex.specs.declared.token.TokenKind.TheVariants as token
use Rattle.ur_lex.specs.declared.token.Lexeme.{Lexeme}
use Rattle.ur_parse_rules.specs.Places.{IsAt, OfKind}

-- each token from the first place up to the second is a minus
pub data SignsTo (tokens : List Lexeme) (i : ℕ) : ℕ → Type 0 where
  none : SignsTo tokens i i
  more : (j k : ℕ) → SignsTo tokens i j → IsAt tokens j k (OfKind (token.Symbol symbol.Minus)) → SignsTo tokens i k
