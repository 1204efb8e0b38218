-- Forms of patterns before it is known whether the pattern ends there.
use Rattle.std.specs.Prelude.{◌≡◌, ◌⊎◌, ℕ, true, false, List, [], drop}
use Rattle.ur_base.specs.declared.refusal.Refusal.{Refusal}
use Rattle.ur_base.specs.Stopping.{Says}
use Rattle.ur_lex.specs.declared.token.Symbol.TheVariants as symbol
use Rattle.ur_lex.specs.declared.token.TokenKind.TheVariants as token
use Rattle.ur_lex.specs.declared.token.Lexeme.{Lexeme}
use Rattle.ur_lex.specs.Spelling.{Text}
use Rattle.ur_syntax.specs.declared.exp.PatForm.{PatForm}
use Rattle.ur_parse_rules.specs.Rules.{Read, Refused}
use Rattle.ur_parse_rules.specs.Places.{Moves, Other, OfKind, span_of, starts}
use Rattle.ur_parse_rules.specs.Numbers.{IsInt}
use Rattle.ur_parse_rules.specs.Classes.{Classes, member}
use Rattle.ur_parse_rules.specs.Ends.{exp_last}
use Rattle.ur_parse_rules.specs.ExpParts.{pat, pat_rest}
use Rattle.ur_parse_rules.specs.Parts.{of_exp, PatRest}
use Rattle.ur_parse_rules.specs.Patterns.{pattern, constructor_of}
use Rattle.ur_parse_rules.specs.Language.{language}

-- the place is the same, or goes on within the tokens
abbrev pub Stays : List Lexeme → ℕ → ℕ → Type 0
Stays tokens i j = (j ≡ i) ⊎ Moves tokens i j

-- what goes on behind a pattern
abbrev pub pat_more : Classes
pat_more = exp_last pat

-- the form is that of the name before i and of what is read behind it
pub record RestReads (tokens : List Lexeme) (i j : ℕ) (x : Text) (f : PatForm) : Type 0 where
  pub rest : PatRest
  pub is : f ≡ constructor_of x rest
  pub read : (n : ℕ) → Read language n (of_exp pat_rest) (drop i tokens) (drop j tokens) rest

-- A form's tokens stand from i to j: a pattern ends there if nothing goes on, else none is read at i.
pub record IsForm (tokens : List Lexeme) (i j : ℕ) (f : PatForm) : Type 0 where
  pub ends : starts (member pat_more) (drop j tokens) ≡ false → (n : ℕ) → Read language n (of_exp pat) (drop i tokens) (drop j tokens) (pattern (span_of tokens i j) f)
  pub goes_on : starts (member pat_more) (drop j tokens) ≡ true → (r : Refusal) → Says r 5 [] [] → (n : ℕ) → Refused language n (of_exp pat) (drop i tokens) r

-- no binder stands at the place, nor a symbol that opens a pattern
pub record NoneOpens (tokens : List Lexeme) (i : ℕ) : Type 0 where
  pub underscore : Other tokens i (OfKind (token.Symbol symbol.Underscore))
  pub variable : Other tokens i (OfKind token.Lower)
  pub bracket : Other tokens i (OfKind (token.Symbol symbol.LBracket))
  pub minus : Other tokens i (OfKind (token.Symbol symbol.Minus))

-- no string, nor an int
pub record NoLiteral (tokens : List Lexeme) (i : ℕ) : Type 0 where
  pub string : Other tokens i (OfKind token.Str)
  pub int : Other tokens i IsInt
