-- Why a list of tokens, as a whole, is spelled by no tree.
use Rattle.std.specs.Prelude.{◌≡◌, ℕ, ◌+◌, List, [], ◌∷◌, ◌++◌, codes}
use Rattle.ur_base.specs.declared.refusal.Refusal.{Refusal}
use Rattle.ur_base.specs.Stopping.{Says}
use Rattle.ur_lex.specs.declared.token.Lexeme.{Lexeme}
use Rattle.ur_parse_rules.specs.Rules.{Spells, Open, one, part}
use Rattle.ur_parse_rules.specs.Parts.{Part, Tree}
use Rattle.ur_parse_rules.specs.Language.{language}

-- no tree spells the tokens with at most n nested
abbrev pub NoneSpells : ℕ → Part → List Lexeme → Type 0
NoneSpells n p tokens = (x : Tree p) → Spells language n (part p x ∷ []) tokens → ⊥

-- E05 where no tree of any nesting spells them; E06 where none within n does, and behind some front n + 1 are open
pub data RefusesWhole (n : ℕ) (p : Part) (tokens : List Lexeme) (r : Refusal) : Type 0 where
  syntax : Says r 5 [] [] → ((m : ℕ) → NoneSpells m p tokens) → RefusesWhole n p tokens r
  nested : (taken rest : List Lexeme) → Says r 6 (codes "257") (codes "256") → NoneSpells n p tokens → tokens ≡ taken ++ rest → Open language (one p ∷ []) taken (n + 1)
      → RefusesWhole n p tokens r
