-- Items of FROM with what stands before them.
use Rattle.std.specs.Prelude.{false, ◌≡◌, ℕ, ◌+◌, ◌++◌, List, [], ◌∷◌, codes}
use Rattle.ur_base.specs.declared.refusal.Refusal.{Refusal}
use Rattle.ur_lex.specs.declared.token.Symbol.TheVariants as symbol
use Rattle.ur_lex.specs.declared.token.TokenKind.TheVariants as token
use Rattle.ur_lex.specs.declared.token.Lexeme.{Lexeme}
use Rattle.ur_syntax.specs.declared.sql.SqlExp.{SqlExp}
use Rattle.ur_syntax.specs.declared.sql.FromItem.{FromItem}
use Rattle.ur_parse_rules.specs.Places.{IsAt, Other, Unexpected, OfKind, Spelled, Reads, Refuses}
use Rattle.ur_parse_rules.specs.Quoted.{Quoted, Raw, raw, mapped}
use Rattle.ur_parse_rules.specs.SqlParts.{sexp, item}
use Rattle.ur_parse_rules.specs.Parts.{of_sql}
use Rattle.ur_parse_rules.specs.Statements.{on_condition}
use Rattle.ur_parse_rules.specs.Classes.{Classes}
use Rattle.ur_parse_rules.specs.Ends.{symbols, capitals}
use Rattle.ur_parse_rules.specs.Language.{language}
use Rattle.ur_parse_embed_code.specs.declared.quotes.Quotes.{Quotes}
use Rattle.ur_parse_embed_code.specs.Quotes.{Makes}

-- an item, `ON` and a condition
pub record Joined (n : ℕ) (tokens : List Lexeme) (i j : ℕ) (q : Quoted Raw FromItem) : Type 0 where
  pub middle : ℕ
  pub begin : ℕ
  pub table : FromItem
  pub condition : Quoted Raw SqlExp
  pub named : Reads language n tokens i middle (of_sql raw item) table
  pub word : IsAt tokens middle begin (Spelled token.Upper (codes "ON"))
  pub inner : Reads language n tokens begin j (of_sql raw (sexp false)) condition
  pub is : q ≡ mapped (on_condition table) condition

-- why they do not stand there
pub data NotJoined (n : ℕ) (tokens : List Lexeme) (i : ℕ) (r : Refusal) : Type 0 where
  no_item : Refuses language n tokens i (of_sql raw item) r → NotJoined n tokens i r
  no_on : (middle : ℕ) (x : FromItem) → Reads language n tokens i middle (of_sql raw item) x → Unexpected tokens middle (Spelled token.Upper (codes "ON")) r → NotJoined n tokens i r
  no_condition : (middle begin : ℕ) (x : FromItem) → Reads language n tokens i middle (of_sql raw item) x → IsAt tokens middle begin (Spelled token.Upper (codes "ON")) → Refuses language n tokens begin (of_sql raw (sexp false)) r → NotJoined n tokens i r

-- what stands before another item
abbrev pub more_from : Classes
more_from = symbols (symbol.Comma ∷ []) ++ capitals (codes "JOIN" ∷ [])

-- an item with what stands before it
pub data Next (n : ℕ) (tokens : List Lexeme) (i j : ℕ) (old new : Quotes) (x : FromItem) : Type 0 where
  listed : IsAt tokens i (i + 1) (OfKind (token.Symbol symbol.Comma)) → Reads language n tokens (i + 1) j (of_sql raw item) x → new ≡ old → Next n tokens i j old new x
  joined : (begin : ℕ) → IsAt tokens i begin (Spelled token.Upper (codes "JOIN")) → Makes (Joined n tokens begin j) tokens n old new x → Next n tokens i j old new x

-- why none stands there
pub data NoNext (n : ℕ) (tokens : List Lexeme) (i : ℕ) (r : Refusal) : Type 0 where
  not_listed : IsAt tokens i (i + 1) (OfKind (token.Symbol symbol.Comma)) → Refuses language n tokens (i + 1) (of_sql raw item) r → NoNext n tokens i r
  not_joined : (begin : ℕ) → IsAt tokens i begin (Spelled token.Upper (codes "JOIN")) → NotJoined n tokens begin r → NoNext n tokens i r
  neither : Other tokens i (OfKind (token.Symbol symbol.Comma)) → Unexpected tokens i (Spelled token.Upper (codes "JOIN")) r → NoNext n tokens i r
