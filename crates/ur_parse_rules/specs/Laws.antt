-- Tokens have one tree.
use Rattle.std.specs.Prelude.{◌≡◌, ℕ, List}
use Rattle.ur_lex.specs.declared.token.Lexeme.{Lexeme}

-- whatever the nesting, at most one tree is what it is said of
abbrev pub HasOneTree : {T : Type 0} → (ℕ → List Lexeme → T → Type 0) → Type 0
HasOneTree {T} Is = (tokens : List Lexeme) (n m : ℕ) (a b : T) → Is n tokens a → Is m tokens b → a ≡ b
