-- `_ <-` and `x <-`.
use Rattle.std.specs.Prelude.{◌+◌, ℕ, true, List}
use Rattle.ur_lex.specs.declared.token.Symbol.TheVariants as symbol
use Rattle.ur_lex.specs.declared.token.TokenKind.TheVariants as token
use Rattle.ur_lex.specs.declared.token.Lexeme.{Lexeme}
use Rattle.ur_syntax.specs.declared.exp.Binder.{Binder}
use Rattle.ur_syntax.specs.declared.exp.Binder.TheVariants as binders
use Rattle.ur_parse_rules.specs.Places.{IsAt, IsName, Other, OfKind}
use Rattle.ur_parse_rules.specs.Words.{is_name}

-- a binder and `<-` stand from i to j
abbrev pub Binds : List Lexeme → ℕ → ℕ → Binder → Type 0
Binds tokens i j binders.Ignored = (k : ℕ) × IsAt tokens i k (OfKind (token.Symbol symbol.Underscore)) × IsAt tokens k j (OfKind (token.Symbol symbol.LeftArrow))
Binds tokens i j (binders.Named x) = (k : ℕ) × IsName tokens i k token.Lower (is_name true) x × IsAt tokens k j (OfKind (token.Symbol symbol.LeftArrow))

-- `_` stands at the place, or a variable with `<-` behind it
pub data BindsOne (tokens : List Lexeme) (i : ℕ) : Type 0 where
  ignored : IsAt tokens i (i + 1) (OfKind (token.Symbol symbol.Underscore)) → BindsOne tokens i
  named : IsAt tokens i (i + 1) (OfKind token.Lower) → IsAt tokens (i + 1) (i + 1 + 1) (OfKind (token.Symbol symbol.LeftArrow)) → BindsOne tokens i

-- neither does
pub data BindsNone (tokens : List Lexeme) (i : ℕ) : Type 0 where
  nameless : Other tokens i (OfKind (token.Symbol symbol.Underscore)) → Other tokens i (OfKind token.Lower) → BindsNone tokens i
  arrowless : Other tokens i (OfKind (token.Symbol symbol.Underscore)) → IsAt tokens i (i + 1) (OfKind token.Lower) → Other tokens (i + 1) (OfKind (token.Symbol symbol.LeftArrow)) → BindsNone tokens i
