-- Definitions before it is known what stands behind them.
use Rattle.std.specs.Prelude.{◌≡◌, ℕ, true, List, [], drop}
use Rattle.ur_base.specs.declared.refusal.Refusal.{Refusal}
use Rattle.ur_base.specs.Stopping.{Says}
use Rattle.ur_lex.specs.declared.token.Lexeme.{Lexeme}
use Rattle.ur_syntax.specs.declared.decl.FunDef.{FunDef}
use Rattle.ur_parse_rules.specs.Rules.{Stops}
use Rattle.ur_parse_rules.specs.Places.{Reads, Refuses, starts}
use Rattle.ur_parse_rules.specs.Classes.{member}
use Rattle.ur_parse_rules.specs.DeclParts.{definition}
use Rattle.ur_parse_rules.specs.Ends.{exp_ends}
use Rattle.ur_parse_rules.specs.Parts.{of_decl}
use Rattle.ur_parse_rules.specs.Language.{language}

-- The tokens from i up to j are the definition, if nothing that goes on behind an expression stands behind it, else none is
-- read at i.
pub record DefinitionRead (n : ℕ) (tokens : List Lexeme) (i j : ℕ) (f : FunDef) : Type 0 where
  pub ends : Stops (member exp_ends) (drop j tokens) → Reads language n tokens i j (of_decl definition) f
  pub goes_on : (r : Refusal) → Says r 5 [] [] → starts (member exp_ends) (drop j tokens) ≡ true → Refuses language n tokens i (of_decl definition) r
