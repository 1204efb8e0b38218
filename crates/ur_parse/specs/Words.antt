-- What declarations begin with.
use Rattle.std.specs.Prelude.{ℕ, Bool, true, false, List}
use Rattle.ur_lex.specs.declared.token.Keyword.{Keyword}
use Rattle.ur_lex.specs.declared.token.Keyword.TheVariants as keyword
use Rattle.ur_lex.specs.declared.token.TokenKind.{TokenKind}
use Rattle.ur_lex.specs.declared.token.TokenKind.TheVariants as token
use Rattle.ur_lex.specs.declared.token.Lexeme.{Lexeme}
use Rattle.ur_parse_rules.specs.Places.{Other, OfKind}

abbrev pub is_declaring : Keyword → Bool
is_declaring keyword.Con = true
is_declaring keyword.Type = true
is_declaring keyword.Datatype = true
is_declaring keyword.Table = true
is_declaring keyword.Sequence = true
is_declaring keyword.Cookie = true
is_declaring keyword.Val = true
is_declaring keyword.Fun = true
is_declaring _ = false

-- whether a declaration begins with a token of this kind
abbrev pub declares : TokenKind → Bool
declares (token.Keyword k) = is_declaring k
declares _ = false

-- no declaration of a value, functions, a datatype or a table begins at the place
pub record NoLongDecl (tokens : List Lexeme) (i : ℕ) : Type 0 where
  pub val : Other tokens i (OfKind (token.Keyword keyword.Val))
  pub functions : Other tokens i (OfKind (token.Keyword keyword.Fun))
  pub datatype : Other tokens i (OfKind (token.Keyword keyword.Datatype))
  pub table : Other tokens i (OfKind (token.Keyword keyword.Table))
