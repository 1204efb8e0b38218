-- Expressions with `::` between, and what `--` removes.
use Rattle.std.specs.Prelude.{◌≡◌, ℕ, List, [], ◌∷◌, drop}
use Rattle.ur_base.specs.declared.refusal.Span.{Span}
use Rattle.ur_lex.specs.declared.token.Lexeme.{Lexeme}
use Rattle.ur_lex.specs.Spelling.{Text}
use Rattle.ur_syntax.specs.declared.con.Con.{Con}
use Rattle.ur_syntax.specs.declared.con.FieldName.{FieldName}
use Rattle.ur_syntax.specs.declared.exp.Branch.{Branch}
use Rattle.ur_syntax.specs.declared.exp.Exp.{Exp}
use Rattle.ur_syntax.specs.declared.exp.Field.{Field}
use Rattle.ur_syntax.specs.declared.exp.LetVal.{LetVal}
use Rattle.ur_syntax.specs.declared.exp.Pat.{Pat}
use Rattle.ur_syntax.specs.declared.exp.ExpForm.TheVariants as form
use Rattle.ur_syntax.specs.declared.exp.Binary.TheVariants as op
use Rattle.ur_parse_rules.specs.Rules.{Read}
use Rattle.ur_parse_rules.specs.Places.{span_of}
use Rattle.ur_parse_rules.specs.Forms.{up_to}
use Rattle.ur_parse_rules.specs.Expressions.{at, step_of}
use Rattle.ur_parse_rules.specs.ExpParts as e
use Rattle.ur_parse_rules.specs.Parts.{of_exp, Step}
use Rattle.ur_parse_rules.specs.Language.{language}
use Rattle.ur_parse_exp_parts.specs.declared.list.Piece.{Piece}

-- each of the expressions before `::` and what stands behind it, up to where the last one ends
abbrev pub listed : List Piece → Span → Exp → Exp
listed [] covered c = c
listed (x ∷ xs) covered c = at (up_to x.span covered) (form.Binary op.Cons x.exp (listed xs covered c))

-- an operator with its right side is read from i to j behind a, which begins at `first`
pub record StepRead (n : ℕ) (l : e.Level) (tokens : List Lexeme) (first i j : ℕ) (a c : Exp) : Type 0 where
  pub step : Step
  pub read : Read language n (of_exp (e.left_step l)) (drop i tokens) (drop j tokens) step
  pub span : step.span ≡ span_of tokens i j
  pub is : c ≡ step_of (span_of tokens first j) a step.right

-- `--` and what it removes are read so, whatever the nesting
pub record GoneRead (tokens : List Lexeme) (first i j : ℕ) (a c : Exp) : Type 0 where
  pub gone : (n : ℕ) → StepRead n e.append tokens first i j a c

-- what records, `let` and `case` are made of
abbrev pub field : FieldName → Exp → Field
field x a = record { name = x; value = a }

abbrev pub let_val : Span → Text → Con → Exp → LetVal
let_val span x t a = record { span = span; name = x; con = t; value = a }

abbrev pub branch : Pat → Exp → Branch
branch p a = record { pat = p; body = a }
