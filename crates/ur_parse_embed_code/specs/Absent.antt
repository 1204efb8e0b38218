-- What stands where it may not.
use Rattle.std.specs.Prelude.{ℕ, ◌+◌, List, []}
use Rattle.ur_base.specs.declared.refusal.Refusal.{Refusal}
use Rattle.ur_base.specs.Stopping.{Says}
use Rattle.ur_lex.specs.declared.token.TokenKind.{TokenKind}
use Rattle.ur_lex.specs.declared.token.Lexeme.{Lexeme}
use Rattle.ur_parse_rules.specs.Places.{IsAt, OfKind}

-- the answer is E05, since such a token stands there
pub record Present (tokens : List Lexeme) (i : ℕ) (k : TokenKind) (r : Refusal) : Type 0 where
  pub says : Says r 5 [] []
  pub is : IsAt tokens i (i + 1) (OfKind k)
