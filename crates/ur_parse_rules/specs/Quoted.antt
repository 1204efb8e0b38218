-- What SQL and XML are with the code of their antiquotes beside them.
use Rattle.std.specs.Prelude.{ℕ, ◌+◌, List, [], ◌∷◌, ◌++◌, length, map, Option, Some}
use Rattle.ur_lex.specs.declared.token.Lexeme.{Lexeme}
use Rattle.ur_syntax.specs.declared.exp.Exp.{Exp}

-- How the code of antiquotes is read: as expressions, or raw, as the tokens that it is, with their brackets in pairs. SQL and
-- XML with raw code are skeletons, which are read before their expressions.
pub data Quoting : Type 0 where
  expressions : Quoting
  raw : Quoting

-- raw code, and within how many expressions of SQL or elements of what was read it stands
pub record Raw : Type 0 where
  pub tokens : List Lexeme
  pub nesting : ℕ

abbrev pub Code : Quoting → Type 0
Code expressions = Exp
Code raw = Raw

-- The code of antiquotes and of attributes in written order, and what they stand in, where the first of each has these
-- numbers.
pub record Quoted (E A : Type 0) : Type 0 where
  pub exps : List E
  pub attributes : List E
  pub at : ℕ → ℕ → A

abbrev pub plain : {E A : Type 0} → A → Quoted E A
plain a = record { exps = []; attributes = []; at = λ n m. a }

-- an antiquote
abbrev pub antiquote : {E : Type 0} → E → Quoted E ℕ
antiquote e = record { exps = e ∷ []; attributes = []; at = λ n m. n }

-- the code of an attribute
abbrev pub attribute : {E : Type 0} → E → Quoted E ℕ
attribute e = record { exps = []; attributes = e ∷ []; at = λ n m. m }

abbrev pub mapped : {E A B : Type 0} → (A → B) → Quoted E A → Quoted E B
mapped f a = record { exps = a.exps; attributes = a.attributes; at = λ n m. f (a.at n m) }

-- the one and then the other
abbrev pub both : {E A B C : Type 0} → (A → B → C) → Quoted E A → Quoted E B → Quoted E C
both f a b = record { exps = a.exps ++ b.exps; attributes = a.attributes ++ b.attributes; at = λ n m. f (a.at n m) (b.at (n + length a.exps) (m + length a.attributes)) }

abbrev pub raised : Raw → Raw
raised c = record { tokens = c.tokens; nesting = c.nesting + 1 }

-- one level further out
abbrev pub deeper : (q : Quoting) {A : Type 0} → Quoted (Code q) A → Quoted (Code q) A
deeper expressions a = a
deeper raw a = record { exps = map raised a.exps; attributes = map raised a.attributes; at = a.at }

abbrev pub apply : {A B : Type 0} → (A → B) → A → B
apply f a = f a

abbrev pub and_then : {E A B : Type 0} → Quoted E (A → B) → Quoted E A → Quoted E B
and_then f a = both apply f a

abbrev pub cons : {A : Type 0} → A → List A → List A
cons a as_ = a ∷ as_

abbrev pub some : {A : Type 0} → A → Option A
some a = Some a
