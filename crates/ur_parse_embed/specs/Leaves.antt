-- Values at a place.
use Rattle.std.specs.Prelude.{◌≡◌, ℕ, Bool, List, Option, Some, None, codes}
use Rattle.ur_lex.specs.declared.token.TokenKind.TheVariants as token
use Rattle.ur_lex.specs.declared.token.Lexeme.{Lexeme}
use Rattle.ur_lex.specs.Spelling.{Text}
use Rattle.ur_syntax.specs.declared.sql.SqlExp.{SqlExp}
use Rattle.ur_syntax.specs.declared.sql.SqlForm.{SqlForm}
use Rattle.ur_syntax.specs.declared.sql.SqlForm.TheVariants as form
use Rattle.ur_parse_rules.specs.declared.parsed.Parsed.{Parsed}
use Rattle.ur_parse_rules.specs.Numbers.{IsInt}
use Rattle.ur_parse_rules.specs.Places.{Moves, IsAt, IsName, Other, OfKind, Spelled, Reads, any}
use Rattle.ur_parse_rules.specs.Quoted.{raw, plain}
use Rattle.ur_parse_rules.specs.SqlParts.{atom}
use Rattle.ur_parse_rules.specs.Parts.{of_sql}
use Rattle.ur_parse_rules.specs.Language.{language}

-- the value stands at i, and j is behind it
pub data IsValue (tokens : List Lexeme) (i j : ℕ) (f : SqlForm) : Type 0 where
  is_number : (m : ℕ) → IsAt tokens i j (OfKind (token.Int m)) → f ≡ form.Int m → IsValue tokens i j f
  is_text : (w : Text) → IsName tokens i j token.SqlText any w → f ≡ form.Str w → IsValue tokens i j f
  is_true : IsAt tokens i j (Spelled token.Upper (codes "TRUE")) → f ≡ form.True → IsValue tokens i j f
  is_false : IsAt tokens i j (Spelled token.Upper (codes "FALSE")) → f ≡ form.False → IsValue tokens i j f
  is_null : IsAt tokens i j (Spelled token.Upper (codes "NULL")) → f ≡ form.Null → IsValue tokens i j f

-- none stands there
pub record NoLeaf (tokens : List Lexeme) (i : ℕ) : Type 0 where
  pub number : Other tokens i IsInt
  pub text : Other tokens i (OfKind token.SqlText)
  pub yes : Other tokens i (Spelled token.Upper (codes "TRUE"))
  pub no : Other tokens i (Spelled token.Upper (codes "FALSE"))
  pub null : Other tokens i (Spelled token.Upper (codes "NULL"))

abbrev pub SeesValue : List Lexeme → ℕ → Option (SqlForm × ℕ) → Type 0
SeesValue tokens i (Some p) = IsValue tokens i p.1 p.0
SeesValue tokens i None = NoLeaf tokens i

-- a value is read there
pub record ReadsLeaf (tokens : List Lexeme) (i : ℕ) (bare : Bool) (p : Parsed SqlExp) : Type 0 where
  pub moves : Moves tokens i p.end
  pub read : (n : ℕ) → Reads language n tokens i p.end (of_sql raw (atom bare)) (plain p.tree)

abbrev pub IsLeaf : List Lexeme → ℕ → Bool → Option (Parsed SqlExp) → Type 0
IsLeaf tokens i bare (Some p) = ReadsLeaf tokens i bare p
IsLeaf tokens i bare None = NoLeaf tokens i
