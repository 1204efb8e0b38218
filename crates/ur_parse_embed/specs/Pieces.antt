-- Pieces of rules that are read together.
use Rattle.std.specs.Prelude.{false, ◌≡◌, ℕ, ◌++◌, List, codes}
use Rattle.ur_base.specs.declared.refusal.Refusal.{Refusal}
use Rattle.ur_lex.specs.declared.token.Symbol.TheVariants as symbol
use Rattle.ur_lex.specs.declared.token.TokenKind.TheVariants as token
use Rattle.ur_lex.specs.declared.token.Lexeme.{Lexeme}
use Rattle.ur_lex.specs.Spelling.{Text}
use Rattle.ur_syntax.specs.declared.sql.SqlExp.{SqlExp}
use Rattle.ur_parse_rules.specs.Places.{IsAt, IsName, Unexpected, OfKind, Spelled, Passing, Reads, Refuses}
use Rattle.ur_parse_rules.specs.Words.{is_field}
use Rattle.ur_parse_rules.specs.Quoted.{Quoted, Raw, raw}
use Rattle.ur_parse_rules.specs.SqlParts.{sexp}
use Rattle.ur_parse_rules.specs.Parts.{of_sql}
use Rattle.ur_parse_rules.specs.Language.{language}
use Rattle.ur_parse_embed_code.specs.declared.quotes.Quotes.{Quotes}
use Rattle.ur_parse_embed_code.specs.Quotes.{Makes}

-- `AS A`
pub record Called (tokens : List Lexeme) (i j : ℕ) (x : Text) : Type 0 where
  pub middle : ℕ
  pub word : IsAt tokens i middle (Spelled token.Upper (codes "AS"))
  pub name : IsName tokens middle j token.Upper is_field x

-- why it does not stand there
pub data NotCalled (tokens : List Lexeme) (i : ℕ) (r : Refusal) : Type 0 where
  no_as : Unexpected tokens i (Spelled token.Upper (codes "AS")) r → NotCalled tokens i r
  no_name : (middle : ℕ) → IsAt tokens i middle (Spelled token.Upper (codes "AS")) → Unexpected tokens middle (Passing token.Upper is_field) r → NotCalled tokens i r

-- `(e)`
pub record Enclosed (n : ℕ) (tokens : List Lexeme) (i j : ℕ) (q : Quoted Raw SqlExp) : Type 0 where
  pub begin : ℕ
  pub middle : ℕ
  pub opened : IsAt tokens i begin (OfKind (token.Symbol symbol.LParen))
  pub inner : Reads language n tokens begin middle (of_sql raw (sexp false)) q
  pub closed : IsAt tokens middle j (OfKind (token.Symbol symbol.RParen))

-- why it does not stand there
pub data NotEnclosed (n : ℕ) (tokens : List Lexeme) (i : ℕ) (r : Refusal) : Type 0 where
  no_open : Unexpected tokens i (OfKind (token.Symbol symbol.LParen)) r → NotEnclosed n tokens i r
  no_inner : (begin : ℕ) → IsAt tokens i begin (OfKind (token.Symbol symbol.LParen)) → Refuses language n tokens begin (of_sql raw (sexp false)) r → NotEnclosed n tokens i r
  no_close : (begin middle : ℕ) (q : Quoted Raw SqlExp) → IsAt tokens i begin (OfKind (token.Symbol symbol.LParen)) → Reads language n tokens begin middle (of_sql raw (sexp false)) q →
      Unexpected tokens middle (OfKind (token.Symbol symbol.RParen)) r → NotEnclosed n tokens i r

-- elements of which this holds are put behind a list
pub record Adds {A : Type 0} (P : List A → Type 0) (before after : List A) : Type 0 where
  pub more : List A
  pub is : after ≡ before ++ more
  pub holds : P more

-- so, with their code
pub record Extends {A : Type 0} (P : Quoted Raw (List A) → Type 0) (tokens : List Lexeme) (depth : ℕ) (old new : Quotes) (before after : List A) : Type 0 where
  pub more : List A
  pub is : after ≡ before ++ more
  pub makes : Makes P tokens depth old new more
