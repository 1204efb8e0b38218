-- Constructors of a datatype before it is known what stands behind them.
use Rattle.std.specs.Prelude.{◌≡◌, ℕ, true, List, [], drop}
use Rattle.ur_base.specs.declared.refusal.Refusal.{Refusal}
use Rattle.ur_base.specs.Stopping.{Says}
use Rattle.ur_lex.specs.declared.token.Lexeme.{Lexeme}
use Rattle.ur_syntax.specs.declared.decl.Variant.{Variant}
use Rattle.ur_parse_rules.specs.Rules.{Stops}
use Rattle.ur_parse_rules.specs.Places.{Reads, Refuses, starts}
use Rattle.ur_parse_rules.specs.Classes.{Classes, member}
use Rattle.ur_parse_rules.specs.DeclParts.{variant}
use Rattle.ur_parse_rules.specs.Parts.{of_decl}
use Rattle.ur_parse_rules.specs.Ends.{decl_last}
use Rattle.ur_parse_rules.specs.Language.{language}

-- what goes on behind a constructor of a datatype
abbrev pub variant_more : Classes
variant_more = decl_last variant

-- The tokens from i up to j are the constructor, if none of them goes on behind it, else none is read at i.
pub record VariantRead (n : ℕ) (tokens : List Lexeme) (i j : ℕ) (v : Variant) : Type 0 where
  pub ends : Stops (member variant_more) (drop j tokens) → Reads language n tokens i j (of_decl variant) v
  pub goes_on : (r : Refusal) → Says r 5 [] [] → starts (member variant_more) (drop j tokens) ≡ true → Refuses language n tokens i (of_decl variant) r
