-- Where a column ends.
use Rattle.std.specs.Prelude.{ℕ, Bool, true, false, List, ⊤}
use Rattle.ur_lex.specs.declared.token.Symbol.TheVariants as symbol
use Rattle.ur_lex.specs.declared.token.TokenKind.TheVariants as token
use Rattle.ur_lex.specs.declared.token.Lexeme.{Lexeme}
use Rattle.ur_parse_rules.specs.Places.{Other, OfKind}

-- where a column may be bare, no dot stands behind it
abbrev pub Undotted : List Lexeme → ℕ → Bool → Type 0
Undotted tokens i true = Other tokens i (OfKind (token.Symbol symbol.Dot))
Undotted tokens i false = ⊤
