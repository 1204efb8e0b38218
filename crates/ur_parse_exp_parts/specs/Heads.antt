-- The parameters of a lambda.
use Rattle.std.specs.Prelude.{◌≡◌, ℕ, List, [], ◌∷◌, ◌++◌}
use Rattle.ur_base.specs.declared.refusal.Refusal.{Refusal}
use Rattle.ur_lex.specs.declared.token.Keyword.TheVariants as keyword
use Rattle.ur_lex.specs.declared.token.Symbol.TheVariants as symbol
use Rattle.ur_lex.specs.declared.token.TokenKind.TheVariants as token
use Rattle.ur_lex.specs.declared.token.Lexeme.{Lexeme}
use Rattle.ur_syntax.specs.declared.exp.LambdaParam.{LambdaParam}
use Rattle.ur_parse_rules.specs.Places.{IsAt, OfKind, Reads, Refuses}
use Rattle.ur_parse_rules.specs.Classes.{Classes}
use Rattle.ur_parse_rules.specs.Ends.{symbols, binder_starts}
use Rattle.ur_parse_rules.specs.ExpParts.{lambda_param, lambda_params}
use Rattle.ur_parse_rules.specs.Parts.{of_exp}
use Rattle.ur_parse_rules.specs.Language.{language}

-- what a parameter begins with
abbrev pub param_starts : Classes
param_starts = symbols (symbol.LParen ∷ symbol.LBracket ∷ []) ++ binder_starts

-- parameters are read from i to j, one at least
pub record ParamsRead (n : ℕ) (tokens : List Lexeme) (i j : ℕ) (ps : List LambdaParam) : Type 0 where
  pub first : LambdaParam
  pub others : List LambdaParam
  pub middle : ℕ
  pub is : ps ≡ first ∷ others
  pub read : Reads language n tokens i middle (of_exp lambda_param) first
  pub reads : Reads language n tokens middle j (of_exp lambda_params) others

-- why there are none: the first is refused, or one behind it
pub data ParamsRefused (n : ℕ) (tokens : List Lexeme) (i : ℕ) (r : Refusal) : Type 0 where
  first : Refuses language n tokens i (of_exp lambda_param) r → ParamsRefused n tokens i r
  behind : (middle : ℕ) (p : LambdaParam) → Reads language n tokens i middle (of_exp lambda_param) p → Refuses language n tokens middle (of_exp lambda_params) r → ParamsRefused n tokens i r

-- `fn`, parameters and `=>` are read from i to j
pub record HeadRead (n : ℕ) (tokens : List Lexeme) (i j : ℕ) (ps : List LambdaParam) : Type 0 where
  pub begin : ℕ
  pub end : ℕ
  pub lambda : IsAt tokens i begin (OfKind (token.Keyword keyword.Fn))
  pub params : ParamsRead n tokens begin end ps
  pub arrow : IsAt tokens end j (OfKind (token.Symbol symbol.FatArrow))
