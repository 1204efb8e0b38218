-- Skeletons of SQL and XML, and the same with expressions for their raw code.
use Rattle.std.specs.Prelude.{◌≡◌, ℕ, true, Bool, ◌+◌, ◌<◌, ◌≤◌, List, [], ◌∷◌, ◌++◌}
use Rattle.std.specs.List.{AllZip, AllByRecursion}
use Rattle.ur_lex.specs.declared.token.Lexeme.{Lexeme}
use Rattle.ur_syntax.specs.declared.exp.Exp.{Exp}
use Rattle.ur_parse_rules.specs.Rules.{Slot, Spells, Open, part, one}
use Rattle.ur_parse_rules.specs.Quoted.{expressions, Raw, Quoted}
use Rattle.ur_parse_rules.specs.Parts.{Part, of_quote}
use Rattle.ur_parse_rules.specs.Language.{language}

-- raw code is spelled by an expression, which with what it stands in has at most n nested
pub record Filled (n : ℕ) (c : Raw) (e : Exp) : Type 0 where
  pub within : ℕ
  pub fits : c.nesting + within ≤ n
  pub spells : Spells language within (part (of_quote expressions) e ∷ []) c.tokens

-- a tree of SQL or XML with raw code, and the same tree with expressions for it
pub record Fills (n : ℕ) {A : Type 0} (a : Quoted Raw A) (b : Quoted Exp A) : Type 0 where
  pub exps : AllZip (Filled n) a.exps b.exps
  pub attributes : AllZip (Filled n) a.attributes b.attributes
  pub same : a.at ≡ b.at

-- behind a front of the tokens more than n are open
pub record OpensBeyond (n : ℕ) (slots : List (Slot Part)) (tokens : List Lexeme) : Type 0 where
  pub taken : List Lexeme
  pub rest : List Lexeme
  pub split : tokens ≡ taken ++ rest
  pub count : ℕ
  pub opens : Open language slots taken count
  pub over : n < count

-- just so many are open behind a front
abbrev pub OpensBehind : ℕ → List (Slot Part) → List Lexeme → Type 0
OpensBehind n slots tokens = (taken : List Lexeme) × (rest : List Lexeme) × (tokens ≡ taken ++ rest) × Open language slots taken n

-- raw code is an expression within n or, where that may be, one in which more are open; what it stands in counts too
pub data Known (may : Bool) (n : ℕ) (c : Raw) : Type 0 where
  filled : (e : Exp) → Filled n c e → Known may n c
  deep : (m : ℕ) → may ≡ true → n ≤ c.nesting + m → OpensBeyond m (one (of_quote expressions) ∷ []) c.tokens → Known may n c

abbrev pub AllKnown : (may : Bool) (n : ℕ) {A : Type 0} → Quoted Raw A → Type 0
AllKnown may n a = AllByRecursion (Known may n) a.exps × AllByRecursion (Known may n) a.attributes
