-- Where an item of SELECT is a column.
use Rattle.std.specs.Prelude.{Bool, false, not, ◌&&◌, List, [], ◌∷◌}
use Rattle.ur_lex.specs.declared.token.Symbol.TheVariants as symbol
use Rattle.ur_lex.specs.declared.token.TokenKind.TheVariants as token
use Rattle.ur_lex.specs.declared.token.Lexeme.{Lexeme}
use Rattle.ur_parse_rules.specs.Places.{starts}
use Rattle.ur_parse_rules.specs.Classes.{Classes, member, all_of}
use Rattle.ur_parse_rules.specs.SqlParts.{selected}
use Rattle.ur_parse_rules.specs.Ends.{symbols, sql_last}

-- a token of these, and this of what stands behind it
abbrev pub follows : Classes → (List Lexeme → Bool) → List Lexeme → Bool
follows cs f [] = false
follows cs f (t ∷ ts) = member cs t.kind t.content && f ts

-- nothing goes on
abbrev pub is_end : List Lexeme → Bool
is_end ts = not (starts (member (sql_last selected)) ts)

-- `.A`, and then nothing that goes on
abbrev pub is_dotted : List Lexeme → Bool
is_dotted = follows (symbols (symbol.Dot ∷ [])) (follows (all_of token.Upper ∷ []) is_end)

-- `t.A` or `T.A`, and then nothing that goes on
abbrev pub is_column : List Lexeme → Bool
is_column = follows (all_of token.Lower ∷ all_of token.Upper ∷ []) is_dotted
