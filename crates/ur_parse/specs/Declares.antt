-- Declarations at a place.
use Rattle.std.specs.Prelude.{◌≡◌, ℕ, true, List, [], drop}
use Rattle.ur_base.specs.declared.refusal.Refusal.{Refusal}
use Rattle.ur_base.specs.Stopping.{Says}
use Rattle.ur_lex.specs.declared.token.Lexeme.{Lexeme}
use Rattle.ur_syntax.specs.declared.decl.Decl.{Decl}
use Rattle.ur_parse_rules.specs.Rules.{Stops}
use Rattle.ur_parse_rules.specs.Places.{Reads, Refuses, starts}
use Rattle.ur_parse_rules.specs.Classes.{member}
use Rattle.ur_parse_rules.specs.DeclParts.{decl}
use Rattle.ur_parse_rules.specs.Parts.{of_decl}
use Rattle.ur_parse_rules.specs.Ends.{decl_ends}
use Rattle.ur_parse_rules.specs.Language.{language}

-- The tokens from i up to j spell the declaration: it is read there where no token goes on behind it, and where one does
-- no declaration is read.
pub record Declares (n : ℕ) (tokens : List Lexeme) (i j : ℕ) (d : Decl) : Type 0 where
  pub read : Stops (member decl_ends) (drop j tokens) → Reads language n tokens i j (of_decl decl) d
  pub unended : (r : Refusal) → Says r 5 [] [] → starts (member decl_ends) (drop j tokens) ≡ true → Refuses language n tokens i (of_decl decl) r
