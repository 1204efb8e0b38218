-- The code of antiquotes, read as expressions.
use Rattle.std.specs.Prelude.{◌≡◌, ◌<◌, ◌-◌, ℕ, true, false, List, [], ◌∷◌, ◌++◌, slice_range}
use Rattle.std.specs.List.{AllZip, AllByRecursion}
use Rattle.ur_base.specs.declared.refusal.Refusal.{Refusal}
use Rattle.ur_base.specs.declared.refusal.Stop.{Stop}
use Rattle.ur_base.specs.declared.refusal.Stop.TheVariants as stop
use Rattle.ur_base.specs.Stopping.{Says}
use Rattle.ur_lex.specs.declared.token.Lexeme.{Lexeme}
use Rattle.ur_syntax.specs.declared.exp.Exp.{Exp}
use Rattle.ur_parse_rules.specs.Rules.{AnyOf, Spells, part, one}
use Rattle.ur_parse_rules.specs.Places.{Moves, Reads}
use Rattle.ur_parse_rules.specs.Quoted.{expressions, raw}
use Rattle.ur_parse_rules.specs.Parts.{of_quote}
use Rattle.ur_parse_rules.specs.Language.{language}
use Rattle.ur_parse_embed_code.specs.declared.quotes.Range.{Range}
use Rattle.ur_parse_embed_code.specs.Quotes.{raw_of}
use Rattle.ur_parse_embed_code.specs.Filled.{OpensBeyond}
use Rattle.ur_parse_exp.specs.declared.code.Codes.{Codes}

-- raw code stands from i to j
pub record IsRaw (tokens : List Lexeme) (i j : ℕ) : Type 0 where
  pub moves : Moves tokens i j
  pub read : (n : ℕ) → Reads language n tokens i j (of_quote raw) (raw_of tokens i j)

-- a range holds raw code, behind a place
pub record Sits (tokens : List Lexeme) (from : ℕ) (r : Range) : Type 0 where
  pub behind : from < r.begin
  pub raw : IsRaw tokens r.begin r.end

-- the tokens of a range, and how many expressions may nest in them where `less` fewer may than it says
abbrev pub code_of : List Lexeme → Range → List Lexeme
code_of tokens r = slice_range tokens r.begin r.end

abbrev pub nest : ℕ → Range → ℕ
nest less r = r.depth - less

-- an expression with at most n nested is all of the tokens
abbrev pub IsExp : ℕ → List Lexeme → Exp → Type 0
IsExp n tokens e = Spells language n (part (of_quote expressions) e ∷ []) tokens

-- no expression of any nesting is
pub record IsNone (tokens : List Lexeme) (r : Range) : Type 0 where
  pub none : (n : ℕ) (e : Exp) → IsExp n (code_of tokens r) e → ⊥

-- none is that nests no deeper than it may, and more are open behind a front
pub record IsDeep (tokens : List Lexeme) (less : ℕ) (r : Range) : Type 0 where
  pub none : (e : Exp) → IsExp (nest less r) (code_of tokens r) e → ⊥
  pub opens : OpensBeyond (nest less r) (one (of_quote expressions) ∷ []) (code_of tokens r)

pub data IsKnown (tokens : List Lexeme) (less : ℕ) (r : Range) : Type 0 where
  fits : (e : Exp) → IsExp (nest less r) (code_of tokens r) e → IsKnown tokens less r
  deep : IsDeep tokens less r → IsKnown tokens less r

abbrev pub AllExps : List Lexeme → ℕ → List Range → List Exp → Type 0
AllExps tokens less = AllZip (λ r e. IsExp (nest less r) (code_of tokens r) e)

-- the code of each range is an expression, or of one at least it nests too deep
pub record CodesRead (tokens : List Lexeme) (less : ℕ) (rs : List Range) (c : Codes) : Type 0 where
  pub exps : c.deep ≡ false → AllExps tokens less rs c.exps.tree
  pub known : AllByRecursion (IsKnown tokens less) rs
  pub deep : c.deep ≡ true → AnyOf (IsDeep tokens less) rs

-- so, with the code of one more range behind that of others
pub data CodeRead (tokens : List Lexeme) (less : ℕ) (r : Range) (before after : Codes) : Type 0 where
  holds : (e : Exp) → IsExp (nest less r) (code_of tokens r) e → after.deep ≡ before.deep → after.exps.tree ≡ before.exps.tree ++ e ∷ [] → CodeRead tokens less r before after
  nests : IsDeep tokens less r → after.deep ≡ true → CodeRead tokens less r before after

-- the answer is E05, since the code of one is no expression
abbrev pub NoneRead : List Lexeme → List Range → Refusal → Type 0
NoneRead tokens rs r = Says r 5 [] [] × AnyOf (IsNone tokens) rs

-- a fact of the refusal of a stop that is one
abbrev pub Told : Stop → (Refusal → Type 0) → Type 0
Told (stop.Refused r) P = P r
Told stop.Memory P = ⊥
