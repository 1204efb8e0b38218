-- Operators and comparison signs of SQL at a place.
use Rattle.std.specs.Prelude.{◌≡◌, ℕ, ◌+◌, Bool, List, [], Option, Some, None, codes, drop, true}
use Rattle.ur_base.specs.declared.refusal.Refusal.{Refusal}
use Rattle.ur_base.specs.Stopping.{Says}
use Rattle.ur_lex.specs.declared.token.Symbol.{Symbol}
use Rattle.ur_lex.specs.declared.token.Symbol.TheVariants as symbol
use Rattle.ur_lex.specs.declared.token.TokenKind.TheVariants as token
use Rattle.ur_lex.specs.declared.token.Lexeme.{Lexeme}
use Rattle.ur_syntax.specs.declared.sql.SqlBinary.{SqlBinary}
use Rattle.ur_syntax.specs.declared.sql.SqlBinary.TheVariants as op
use Rattle.ur_parse_rules.specs.Places.{IsAt, Other, OfKind, Spelled, starts}
use Rattle.ur_parse_rules.specs.Classes.{member}
use Rattle.ur_parse_rules.specs.Ends.{sql_comparison}
use Rattle.ur_parse_embed.specs.declared.made.Level.{Level}
use Rattle.ur_parse_embed.specs.declared.made.Level.TheVariants as levels

-- a symbol, or a word in capitals
abbrev pub IsSymbol : List Lexeme → ℕ → Symbol → Type 0
IsSymbol tokens i s = IsAt tokens i (i + 1) (OfKind (token.Symbol s))

abbrev pub NoSymbol : List Lexeme → ℕ → Symbol → Type 0
NoSymbol tokens i s = Other tokens i (OfKind (token.Symbol s))

-- the operator of the level stands there
abbrev pub IsOperator : List Lexeme → ℕ → Level → SqlBinary → Type 0
IsOperator tokens i levels.Disjunction op.Or = IsAt tokens i (i + 1) (Spelled token.Upper (codes "OR"))
IsOperator tokens i levels.Conjunction op.And = IsAt tokens i (i + 1) (Spelled token.Upper (codes "AND"))
IsOperator tokens i levels.Sum op.Add = IsSymbol tokens i symbol.Plus
IsOperator tokens i levels.Sum op.Sub = IsSymbol tokens i symbol.Minus
IsOperator tokens i levels.Product op.Mul = IsSymbol tokens i symbol.Star
IsOperator tokens i _ _ = ⊥

-- none of the level does
abbrev pub NoOperator : List Lexeme → ℕ → Level → Type 0
NoOperator tokens i levels.Disjunction = Other tokens i (Spelled token.Upper (codes "OR"))
NoOperator tokens i levels.Conjunction = Other tokens i (Spelled token.Upper (codes "AND"))
NoOperator tokens i levels.Sum = NoSymbol tokens i symbol.Plus × NoSymbol tokens i symbol.Minus
NoOperator tokens i levels.Product = NoSymbol tokens i symbol.Star

abbrev pub Operates : List Lexeme → ℕ → Level → Option SqlBinary → Type 0
Operates tokens i l (Some o) = IsOperator tokens i l o
Operates tokens i l None = NoOperator tokens i l

-- a comparison sign stands there
abbrev pub IsSign : List Lexeme → ℕ → SqlBinary → Type 0
IsSign tokens i op.Eq = IsSymbol tokens i symbol.Eq
IsSign tokens i op.Ne = IsSymbol tokens i symbol.Ne
IsSign tokens i op.Lt = IsSymbol tokens i symbol.Lt
IsSign tokens i op.Le = IsSymbol tokens i symbol.Le
IsSign tokens i op.Gt = IsSymbol tokens i symbol.Gt
IsSign tokens i op.Ge = IsSymbol tokens i symbol.Ge
IsSign tokens i _ = ⊥

-- none does
pub record NoSign (tokens : List Lexeme) (i : ℕ) : Type 0 where
  pub eq : NoSymbol tokens i symbol.Eq
  pub ne : NoSymbol tokens i symbol.Ne
  pub lt : NoSymbol tokens i symbol.Lt
  pub le : NoSymbol tokens i symbol.Le
  pub gt : NoSymbol tokens i symbol.Gt
  pub ge : NoSymbol tokens i symbol.Ge

abbrev pub Compares : List Lexeme → ℕ → Option SqlBinary → Type 0
Compares tokens i (Some o) = IsSign tokens i o
Compares tokens i None = NoSign tokens i

-- the answer is E05, since a comparison goes on there
pub record Compared (tokens : List Lexeme) (i : ℕ) (bare : Bool) (r : Refusal) : Type 0 where
  pub says : Says r 5 [] []
  pub is : starts (member (sql_comparison bare)) (drop i tokens) ≡ true
