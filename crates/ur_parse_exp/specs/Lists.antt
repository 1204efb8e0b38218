-- Fields and values behind others.
use Rattle.std.specs.Prelude.{◌≡◌, ℕ, List, [], ◌∷◌, ◌++◌}
use Rattle.ur_base.specs.declared.refusal.Refusal.{Refusal}
use Rattle.ur_lex.specs.declared.token.Lexeme.{Lexeme}
use Rattle.ur_syntax.specs.declared.exp.Field.{Field}
use Rattle.ur_syntax.specs.declared.exp.LetVal.{LetVal}
use Rattle.ur_parse_rules.specs.Places.{Reads, Refuses}
use Rattle.ur_parse_rules.specs.ExpParts as e
use Rattle.ur_parse_rules.specs.Parts.{of_exp}
use Rattle.ur_parse_rules.specs.Language.{language}

-- a field is read from i to j, and put behind the others
pub record FieldRead (n : ℕ) (tokens : List Lexeme) (i j : ℕ) (before after : List Field) : Type 0 where
  pub of : Field
  pub read : Reads language n tokens i j (of_exp e.field) of
  pub is : after ≡ before ++ of ∷ []

-- a value of a `let` is
pub record ValRead (n : ℕ) (tokens : List Lexeme) (i j : ℕ) (before after : List LetVal) : Type 0 where
  pub of : LetVal
  pub read : Reads language n tokens i j (of_exp e.let_val) of
  pub is : after ≡ before ++ of ∷ []

-- the values of a `let` are read from i to j, one at least
pub record ValsRead (n : ℕ) (tokens : List Lexeme) (i j : ℕ) (vals : List LetVal) : Type 0 where
  pub first : LetVal
  pub others : List LetVal
  pub middle : ℕ
  pub is : vals ≡ first ∷ others
  pub read : Reads language n tokens i middle (of_exp e.let_val) first
  pub reads : Reads language n tokens middle j (of_exp e.let_vals) others

-- why there are none: the first is refused, or one behind it
pub data ValsRefused (n : ℕ) (tokens : List Lexeme) (i : ℕ) (r : Refusal) : Type 0 where
  first : Refuses language n tokens i (of_exp e.let_val) r → ValsRefused n tokens i r
  behind : (middle : ℕ) (v : LetVal) → Reads language n tokens i middle (of_exp e.let_val) v → Refuses language n tokens middle (of_exp e.let_vals) r → ValsRefused n tokens i r
