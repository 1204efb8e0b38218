-- What is read behind the begin of an expression.
use Rattle.std.specs.Prelude.{◌≡◌, ◌+◌, ℕ, List, drop}
use Rattle.ur_lex.specs.declared.token.Lexeme.{Lexeme}
use Rattle.ur_lex.specs.Spelling.{Text}
use Rattle.ur_syntax.specs.declared.exp.Exp.{Exp}
use Rattle.ur_syntax.specs.declared.exp.ExpForm.TheVariants as form
use Rattle.ur_parse_rules.specs.Rules.{Read}
use Rattle.ur_parse_rules.specs.Places.{span_of}
use Rattle.ur_parse_rules.specs.Expressions.{at, projected, capital_of}
use Rattle.ur_parse_rules.specs.ExpParts.{dots, capital_rest}
use Rattle.ur_parse_rules.specs.Parts.{of_exp, Dot, Capital}
use Rattle.ur_parse_rules.specs.Language.{language}

-- names of fields are read from i to j behind a, which begins at `first`
pub record DotsRead (tokens : List Lexeme) (first i j : ℕ) (a c : Exp) : Type 0 where
  pub names : List Dot
  pub read : (n : ℕ) → Read language n (of_exp dots) (drop i tokens) (drop j tokens) names
  pub is : c ≡ projected (span_of tokens first j) a names

-- what stands behind the word x at `first` is read up to j
pub record CapitalRead (tokens : List Lexeme) (first j : ℕ) (x : Text) (c : Exp) : Type 0 where
  pub rest : Capital
  pub read : (n : ℕ) → Read language n (of_exp capital_rest) (drop (first + 1) tokens) (drop j tokens) rest
  pub is : c ≡ capital_of (span_of tokens first j) x rest

-- names of fields are read from i to j behind `[]`, which stands from `first` to i
pub record NilRead (tokens : List Lexeme) (first i j : ℕ) (c : Exp) : Type 0 where
  pub names : List Dot
  pub read : (n : ℕ) → Read language n (of_exp dots) (drop i tokens) (drop j tokens) names
  pub is : c ≡ projected (span_of tokens first j) (at (span_of tokens first i) form.Nil) names
