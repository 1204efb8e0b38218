-- What is read with its quotes.
use Rattle.std.specs.Prelude.{◌≡◌, ℕ, ◌-◌, ◌++◌, List, length, map, slice_range}
use Rattle.ur_lex.specs.declared.token.Lexeme.{Lexeme}
use Rattle.ur_parse_rules.specs.Quoted.{Quoted, Raw}
use Rattle.ur_parse_embed_code.specs.declared.quotes.Range.{Range}
use Rattle.ur_parse_embed_code.specs.declared.quotes.Quotes.{Quotes}

-- the tokens of code, and how many expressions may nest there
pub record Held : Type 0 where
  pub tokens : List Lexeme
  pub depth : ℕ

abbrev pub held : List Lexeme → Range → Held
held tokens r = record { tokens = slice_range tokens r.begin r.end; depth = r.depth }

abbrev pub all_held : List Lexeme → List Range → List Held
all_held tokens = map (held tokens)

-- code of what is read where so many may nest
abbrev pub within : ℕ → Raw → Held
within depth c = record { tokens = c.tokens; depth = depth - c.nesting }

-- The code of x is put behind what was there, and numbered from there on x is the tree.
pub record Numbered {A : Type 0} (tokens : List Lexeme) (depth : ℕ) (old new : Quotes) (x : Quoted Raw A) (tree : A) : Type 0 where
  pub exps : all_held tokens new.exps ≡ all_held tokens old.exps ++ map (within depth) x.exps
  pub attributes : all_held tokens new.attributes ≡ all_held tokens old.attributes ++ map (within depth) x.attributes
  pub value : tree ≡ x.at (length old.exps) (length old.attributes)

-- Something is read whose code is so put and numbered.
pub record Makes {A : Type 0} (P : Quoted Raw A → Type 0) (tokens : List Lexeme) (depth : ℕ) (old new : Quotes) (tree : A) : Type 0 where
  pub of : Quoted Raw A
  pub read : P of
  pub made : Numbered tokens depth old new of tree

-- raw code from one place up to another
abbrev pub raw_of : List Lexeme → ℕ → ℕ → Raw
raw_of tokens i j = record { tokens = slice_range tokens i j; nesting = 0 }

-- Code is read, put behind the others and numbered.
pub record Holds (quote : Raw → Quoted Raw ℕ) (P : Raw → Type 0) (tokens : List Lexeme) (depth : ℕ) (old new : Quotes) (number : ℕ) : Type 0 where
  pub code : Raw
  pub read : P code
  pub made : Numbered tokens depth old new (quote code) number
