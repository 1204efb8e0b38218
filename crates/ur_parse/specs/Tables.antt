-- The columns and keys of a table before it is known what stands behind them.
use Rattle.std.specs.Prelude.{◌≡◌, ℕ, true, List, [], ◌++◌, drop}
use Rattle.ur_base.specs.declared.refusal.Span.{Span}
use Rattle.ur_base.specs.declared.refusal.Refusal.{Refusal}
use Rattle.ur_base.specs.Stopping.{Says}
use Rattle.ur_lex.specs.declared.token.Symbol.TheVariants as symbol
use Rattle.ur_lex.specs.declared.token.TokenKind.TheVariants as token
use Rattle.ur_lex.specs.declared.token.Lexeme.{Lexeme}
use Rattle.ur_lex.specs.Spelling.{Text}
use Rattle.ur_syntax.specs.declared.decl.Constraint.{Constraint}
use Rattle.ur_parse_rules.specs.Rules.{Stops}
use Rattle.ur_parse_rules.specs.Places.{IsAt, Other, OfKind, Reads, Refuses, starts}
use Rattle.ur_parse_rules.specs.Classes.{member}
use Rattle.ur_parse_rules.specs.DeclParts.{keys, key_columns, constraint_head}
use Rattle.ur_parse_rules.specs.Declarations.{constraints_of}
use Rattle.ur_parse_rules.specs.Parts.{of_decl, Named, KeyColumns, Keys}
use Rattle.ur_parse_rules.specs.Ends.{decl_last}
use Rattle.ur_parse_rules.specs.Language.{language}

-- the columns of a key, the span where they end, and the constraints behind them
abbrev pub keyed : List Text → Span → List Constraint → KeyColumns
keyed columns last constraints = record { columns = columns; end = last; constraints = constraints }

-- The tokens from i up to j are columns of a key with these constraints behind them: they end there where no comma stands,
-- and behind a comma only a constraint goes on.
pub record ColumnsRead (n : ℕ) (tokens : List Lexeme) (i j : ℕ) (columns : List Text) (last : Span) (made : List Constraint) : Type 0 where
  pub alone : Other tokens j (OfKind (token.Symbol symbol.Comma)) → Reads language n tokens i j (of_decl key_columns) (keyed columns last made)
  pub followed : (k l m : ℕ) (h : Named) (c : KeyColumns) → IsAt tokens j k (OfKind (token.Symbol symbol.Comma)) → Reads language n tokens k l (of_decl constraint_head) h → Reads language n tokens l m (of_decl key_columns) c →
      Reads language n tokens i m (of_decl key_columns) (keyed columns last (made ++ constraints_of h c))
  pub headless : (k : ℕ) (r : Refusal) → IsAt tokens j k (OfKind (token.Symbol symbol.Comma)) → Refuses language n tokens k (of_decl constraint_head) r → Refuses language n tokens i (of_decl key_columns) r
  pub empty : (k l : ℕ) (h : Named) (r : Refusal) → IsAt tokens j k (OfKind (token.Symbol symbol.Comma)) → Reads language n tokens k l (of_decl constraint_head) h → Refuses language n tokens l (of_decl key_columns) r →
      Refuses language n tokens i (of_decl key_columns) r

-- The tokens from i up to j are the keys of a table, if nothing of keys stands behind them, else none are read at i.
pub record KeysRead (n : ℕ) (tokens : List Lexeme) (i j : ℕ) (k : Keys) : Type 0 where
  pub ends : Stops (member (decl_last keys)) (drop j tokens) → Reads language n tokens i j (of_decl keys) k
  pub goes_on : (r : Refusal) → Says r 5 [] [] → starts (member (decl_last keys)) (drop j tokens) ≡ true → Refuses language n tokens i (of_decl keys) r
