-- A branch behind others.
use Rattle.std.specs.Prelude.{◌≡◌, ℕ, List, [], ◌∷◌, ◌++◌}
use Rattle.ur_lex.specs.declared.token.Symbol.TheVariants as symbol
use Rattle.ur_lex.specs.declared.token.TokenKind.TheVariants as token
use Rattle.ur_lex.specs.declared.token.Lexeme.{Lexeme}
use Rattle.ur_syntax.specs.declared.exp.Branch.{Branch}
use Rattle.ur_syntax.specs.declared.exp.Pat.{Pat}
use Rattle.ur_parse_rules.specs.Places.{IsAt, OfKind, Reads}
use Rattle.ur_parse_rules.specs.ExpParts.{pat, exp}
use Rattle.ur_parse_rules.specs.Parts.{of_exp, Ended}
use Rattle.ur_parse_rules.specs.Language.{language}
use Rattle.ur_parse_exp_parts.specs.Lists.{branch}

-- a pattern, `=>` and what it gives are read from i to j, and put behind the other branches
pub record BranchRead (n : ℕ) (tokens : List Lexeme) (i j : ℕ) (before after : List Branch) : Type 0 where
  pub of : Pat
  pub body : Ended
  pub middle : ℕ
  pub begin : ℕ
  pub pattern : Reads language n tokens i middle (of_exp pat) of
  pub arrow : IsAt tokens middle begin (OfKind (token.Symbol symbol.FatArrow))
  pub read : Reads language n tokens begin j (of_exp exp) body
  pub is : after ≡ before ++ branch of body.exp ∷ []
