-- `if`, its test and its first branch, and what stands behind `else`.
use Rattle.std.specs.Prelude.{◌≡◌, ◌+◌, ℕ, List, [], ◌∷◌}
use Rattle.ur_base.specs.declared.refusal.Span.{Span}
use Rattle.ur_lex.specs.declared.token.Keyword.TheVariants as keyword
use Rattle.ur_lex.specs.declared.token.TokenKind.TheVariants as token
use Rattle.ur_lex.specs.declared.token.Lexeme.{Lexeme}
use Rattle.ur_syntax.specs.declared.exp.ExpForm.TheVariants as form
use Rattle.ur_parse_rules.specs.Places.{Moves, IsAt, OfKind, Reads, span_of}
use Rattle.ur_parse_rules.specs.Forms.{up_to}
use Rattle.ur_parse_rules.specs.Expressions.{at, ends_as}
use Rattle.ur_parse_rules.specs.ExpParts.{exp}
use Rattle.ur_parse_rules.specs.Parts.{of_exp, Ended}
use Rattle.ur_parse_rules.specs.Language.{language}
use Rattle.ur_parse_exp_parts.specs.Lines.{ended}
use Rattle.ur_parse_exp.specs.declared.choice.Choice.{Choice}

-- a choice with what stands behind its `else`, up to where that ends
abbrev pub choice_at : Choice → Span → Ended → Ended
choice_at c covered b = ends_as b (at (up_to c.span covered) (form.If c.test.tree.exp c.first.tree.exp b.exp))

-- each of the choices with what stands behind it, up to where the last part ends
abbrev pub chosen : List Choice → Span → Ended → Ended
chosen [] covered b = b
chosen (c ∷ cs) covered b = choice_at c covered (chosen cs covered b)

-- `if`, a test, `then`, a first branch and `else` are read from i to j
pub record ChoiceRead (n : ℕ) (tokens : List Lexeme) (i j : ℕ) (c : Choice) : Type 0 where
  pub middle : ℕ
  pub begin : ℕ
  pub end : ℕ
  pub mark : IsAt tokens i (i + 1) (OfKind (token.Keyword keyword.If))
  pub test : Reads language n tokens (i + 1) middle (of_exp exp) (ended c.test.tree)
  pub then_at : IsAt tokens middle begin (OfKind (token.Keyword keyword.Then))
  pub first : Reads language n tokens begin end (of_exp exp) (ended c.first.tree)
  pub else_at : IsAt tokens end j (OfKind (token.Keyword keyword.Else))
  pub moves : Moves tokens i end
  pub span : c.span ≡ span_of tokens i end
