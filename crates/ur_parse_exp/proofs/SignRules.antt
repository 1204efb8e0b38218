-- Signs before an expression, one by one.
use Rattle.std.specs.Prelude.{◌≡◌, ◌<◌, ◌≤◌, ◌+◌, ◌-◌, ℕ, List, drop}
use Rattle.std.proofs.Common.{subst, arith}
use Rattle.ur_base.specs.declared.refusal.Refusal.{Refusal}
use Rattle.ur_lex.specs.declared.token.Symbol.TheVariants as symbol
use Rattle.ur_lex.specs.declared.token.TokenKind.TheVariants as token
use Rattle.ur_lex.specs.declared.token.Lexeme.{Lexeme}
use Rattle.ur_parse_rules.specs.Rules.{Refused}
use Rattle.ur_parse_rules.specs.Places.{Moves, IsAt, OfKind}
use Rattle.ur_parse_rules.specs.ExpParts.{negative}
use Rattle.ur_parse_rules.specs.Parts.{of_exp}
use Rattle.ur_parse_rules.specs.Language.{language}
use Rattle.ur_parse_exp.specs.Signs.{SignsTo, none, more}
use Rattle.ur_parse_exp.proofs.Consing.{minus_refused}

module _ {tokens : List Lexeme} {i : ℕ} where
  -- signs go on
  pub signs_on : {k : ℕ} → SignsTo tokens i k → i ≤ k
  signs_on none = omega arith
  signs_on (more j k s a) = let l : i ≤ j = signs_on s in let e = a.next in omega (arith, l, e)

  -- what is read behind signs is read behind the place where they begin
  pub behind_signs : {k end : ℕ} → SignsTo tokens i k → Moves tokens k end → Moves tokens i end
  behind_signs {k} {end} s m = let l : i ≤ k = signs_on s in let o = m.on in record { on = omega (arith, l, o); within = m.within }

  -- the last of them
  pub last_sign : {k : ℕ} → i < k → SignsTo tokens i k → SignsTo tokens i (k - 1) × IsAt tokens (k - 1) k (OfKind (token.Symbol symbol.Minus))
  last_sign h none = absurd (omega (arith, h))
  last_sign h (more j k s a) =
      let next = a.next in
      let e : j ≡ k - 1 = omega (arith, next) in (
        subst (λ m. SignsTo tokens i m) e s,
        subst (λ m. IsAt tokens m k (OfKind (token.Symbol symbol.Minus))) e a,
      )

  pub signs_refused : (n : ℕ) {k : ℕ} {r : Refusal} → SignsTo tokens i k → Refused language n (of_exp negative) (drop k tokens) r
      → Refused language n (of_exp negative) (drop i tokens) r
  signs_refused n none h = h
  signs_refused n (more j k s a) h = signs_refused n s (minus_refused tokens j a h)
