-- Atoms in parentheses, and records.
use Rattle.std.specs.Prelude.{◌≡◌, ℕ, Bool, true, false, if◌then◌else◌, List, [], ◌∷◌, drop, Some, None, refl}
use Rattle.std.proofs.Common.{◌∙◌, arith}
use Rattle.ur_base.specs.declared.refusal.Refusal.{Refusal}
use Rattle.ur_lex.specs.declared.token.Symbol.TheVariants as symbol
use Rattle.ur_lex.specs.declared.token.TokenKind.TheVariants as token
use Rattle.ur_lex.specs.declared.token.Lexeme.{Lexeme}
use Rattle.ur_syntax.specs.declared.exp.Field.{Field}
use Rattle.ur_syntax.specs.declared.exp.ExpForm.TheVariants as form
use Rattle.ur_parse_rules.specs.Rules.{Read, Refused, Stops, no_span}
use Rattle.ur_parse_rules.specs.Places.{Moves, IsAt, Other, OfKind, Unexpected, span_of}
use Rattle.ur_parse_rules.proofs.Tokens.{covers}
use Rattle.ur_parse_rules.proofs.Steps.{nothing, a_mark, an_one, mark_read, one_read, one_refused, no_mark, reads_by, refused_by}
use Rattle.ur_parse_rules.proofs.Choices.{chosen_mark_at, if_false}
use Rattle.ur_parse_rules.specs.Classes.{member, symbol_class}
use Rattle.ur_parse_rules.specs.Expressions.{at}
use Rattle.ur_parse_rules.specs.ExpParts.{exp, base, paren_rest, fields}
use Rattle.ur_parse_rules.specs.Parts.{of_exp, Ended}
use Rattle.ur_parse_rules.specs.Language.{language}
use Rattle.ur_parse_rules.proofs.Choice.{choice}
use Rattle.ur_parse_rules.proofs.AllDecided.{decided}
use Rattle.ur_parse_rules.proofs.Places.{ends_empty, missing}

second_one : (b : Bool) → let z : ℕ = if b then 1 else 1 in z ≡ 1
second_one true = refl
second_one false = refl

unclosed : (ts : List Lexeme) → Stops (member (symbol_class symbol.RParen ∷ [])) ts → choice (of_exp paren_rest) ts ≡ 1
unclosed [] s = refl
unclosed (t ∷ ts) s = if_false 0 s ∙ second_one _

module _ (n : ℕ) (front : Bool) {tokens : List Lexeme} {here next : ℕ} (a : IsAt tokens here next (OfKind (token.Symbol symbol.LParen))) where
  paren_chosen : choice (of_exp (base front)) (drop here tokens) ≡ 3
  paren_chosen = chosen_mark_at (choice (of_exp (base front))) a (λ w s us. refl)

  pub unit_read : {end : ℕ} → Moves tokens here end → IsAt tokens next end (OfKind (token.Symbol symbol.RParen)) → Read language n (of_exp (base front)) (drop here tokens) (drop end tokens) (at (span_of tokens here end) form.Unit)
  unit_read {end = end} m b = let rest : Read language n (of_exp paren_rest) (drop next tokens) (drop end tokens) None = reads_by 0 n (omega arith) (record { v = tt; span = no_span; is_span = refl; allowed = refl; builds = refl; fills = a_mark b nothing }) (ends_empty _) in
      let fl = a_mark {n = n} a (an_one rest nothing) in
      reads_by 3 n (omega arith) (record { v = (None, tt); span = span_of tokens here end; fills = fl; is_span = covers tokens here end m fl.taken fl.split; allowed = refl; builds = refl }) (ends_empty _)

  module _ (o : Other tokens next (OfKind (token.Symbol symbol.RParen))) where
    pub inner_refused : {r : Refusal} → Refused language n (of_exp exp) (drop next tokens) r → Refused language n (of_exp (base front)) (drop here tokens) r
    inner_refused h = refused_by decided 3 n (omega arith) paren_chosen (mark_read a (one_refused (refused_by decided 1 n (omega arith) (unclosed _ (missing refl o)) (one_refused h))))

    pub inner_open : (mid : ℕ) {v : Ended} {r : Refusal} → Read language n (of_exp exp) (drop next tokens) (drop mid tokens) v → Unexpected tokens mid (OfKind (token.Symbol symbol.RParen)) r → Refused language n (of_exp (base front)) (drop here tokens) r
    inner_open mid f u = refused_by decided 3 n (omega arith) paren_chosen (mark_read a (one_refused (refused_by decided 1 n (omega arith) (unclosed _ (missing refl o)) (one_read decided f (no_mark u)))))

  pub inner_read : (mid : ℕ) {end : ℕ} {v : Ended} → Moves tokens here end → Read language n (of_exp exp) (drop next tokens) (drop mid tokens) v → IsAt tokens mid end (OfKind (token.Symbol symbol.RParen)) → Read language n (of_exp (base front)) (drop here tokens) (drop end tokens) v.exp
  inner_read mid {end = end} {v = v} m f b = let rest : Read language n (of_exp paren_rest) (drop next tokens) (drop end tokens) (Some v.exp) = reads_by 1 n (omega arith)
      (record { v = (v, tt); span = no_span; is_span = refl; allowed = refl; builds = refl; fills = an_one f (a_mark b nothing) }) (ends_empty _) in
      let fl = a_mark {n = n} a (an_one rest nothing) in
      reads_by 3 n (omega arith) (record { v = (Some v.exp, tt); span = span_of tokens here end; fills = fl; is_span = covers tokens here end m fl.taken fl.split; allowed = refl; builds = refl }) (ends_empty _)

module _ (n : ℕ) (front : Bool) {tokens : List Lexeme} {here next : ℕ} (a : IsAt tokens here next (OfKind (token.Symbol symbol.LBrace))) where
  pub record_refused : {r : Refusal} → Refused language n (of_exp fields) (drop next tokens) r → Refused language n (of_exp (base front)) (drop here tokens) r
  record_refused h = refused_by decided 4 n (omega arith) (chosen_mark_at (choice (of_exp (base front))) a (λ w s us. refl)) (mark_read a (one_refused h))

  pub record_read : (end : ℕ) {fs : List Field} → Moves tokens here end → Read language n (of_exp fields) (drop next tokens) (drop end tokens) fs → Read language n (of_exp (base front)) (drop here tokens) (drop end tokens) (at (span_of tokens here end) (form.Record fs))
  record_read end {fs = fs} m h = let fl = a_mark {n = n} a (an_one h nothing) in
      reads_by 4 n (omega arith) (record { v = (fs, tt); span = span_of tokens here end; fills = fl; is_span = covers tokens here end m fl.taken fl.split; allowed = refl; builds = refl }) (ends_empty _)
