-- Comparisons, of which there is no chain.
use Rattle.std.specs.Prelude.{◌≡◌, ◌+◌, ℕ, Bool, true, false, if◌then◌else◌, List, [], ◌∷◌, drop, Some, None, refl}
use Rattle.std.proofs.Common.{ap, arith}
use Rattle.ur_base.specs.declared.refusal.Refusal.{Refusal}
use Rattle.ur_base.specs.Stopping.{Says}
use Rattle.ur_lex.specs.declared.token.Symbol.{Symbol}
use Rattle.ur_lex.specs.declared.token.Symbol.TheVariants as symbol
use Rattle.ur_lex.specs.declared.token.Keyword.{Keyword}
use Rattle.ur_lex.specs.declared.token.Keyword.TheVariants as keyword
use Rattle.ur_lex.specs.declared.token.TokenKind.{TokenKind}
use Rattle.ur_lex.specs.declared.token.TokenKind.TheVariants as token
use Rattle.ur_lex.specs.declared.token.Lexeme.{Lexeme}
use Rattle.ur_lex.specs.Spelling.{Text}
use Rattle.ur_syntax.specs.declared.exp.Exp.{Exp}
use Rattle.ur_syntax.specs.declared.exp.ExpForm.TheVariants as form
use Rattle.ur_syntax.specs.declared.exp.Binary.{Binary}
use Rattle.ur_syntax.specs.declared.exp.Binary.TheVariants as op
use Rattle.ur_parse_rules.specs.Rules.{Read, Refused, Stops, no_span}
use Rattle.ur_parse_rules.specs.Places.{Moves, IsAt, OfKind, span_of, starts}
use Rattle.ur_parse_rules.proofs.Tokens.{covers}
use Rattle.ur_parse_rules.proofs.Steps.{nothing, a_mark, an_one, mark_read, one_read, one_refused, reads_by, refused_by}
use Rattle.ur_parse_rules.proofs.Choices.{chosen_mark_at, starts_at}
use Rattle.ur_parse_rules.specs.Classes.{Classes, member}
use Rattle.ur_parse_rules.specs.Ends.{symbols, cons_more, comparison_more}
use Rattle.ur_parse_rules.specs.Expressions.{at}
use Rattle.ur_parse_rules.specs.ExpParts.{cons, comparison, comparison_tail}
use Rattle.ur_parse_rules.specs.Parts.{of_exp}
use Rattle.ur_parse_rules.specs.Language.{language}
use Rattle.ur_parse_rules.proofs.Choice.{choice}
use Rattle.ur_parse_rules.proofs.AllDecided.{decided}
use Rattle.ur_parse_rules.proofs.Tests.{false_true, is_not}
use Rattle.ur_parse_con.proofs.Binders.{cannot_end}
use Rattle.ur_parse_exp_parts.proofs.Ending.{stops_both}
use Rattle.ur_parse_con.specs.Operators.{compared, comparison_of, ComparisonAt}

-- ---- which tokens compare

abbrev signs : Classes
signs = symbols (symbol.Eq ∷ symbol.Ne ∷ symbol.Lt ∷ symbol.Le ∷ symbol.Gt ∷ symbol.Ge ∷ [])

sign_compares : (s : Symbol) (w : Text) → member signs (token.Symbol s) w ≡ true → (o : Binary) × (compared s ≡ Some o)
sign_compares symbol.Eq w e = (op.Eq, refl)
sign_compares symbol.Ne w e = (op.Ne, refl)
sign_compares symbol.Lt w e = (op.Lt, refl)
sign_compares symbol.Le w e = (op.Le, refl)
sign_compares symbol.Gt w e = (op.Gt, refl)
sign_compares symbol.Ge w e = (op.Ge, refl)
sign_compares s w e = false_true e

keyword_compares : {A : Type 0} (k : Keyword) (w : Text) → member signs (token.Keyword k) w ≡ true → A
keyword_compares keyword.And w e = false_true e
keyword_compares k w e = false_true e

kind_compares : (k : TokenKind) (w : Text) → member signs k w ≡ true → (o : Binary) × (comparison_of k ≡ Some o)
kind_compares (token.Symbol s) w e = sign_compares s w e
kind_compares (token.Keyword k) w e = keyword_compares k w e
kind_compares (token.Int n) w e = false_true e
kind_compares token.Lower w e = false_true e
kind_compares token.Upper w e = false_true e
kind_compares token.Str w e = false_true e
kind_compares token.SqlText w e = false_true e
kind_compares token.XmlText w e = false_true e
kind_compares token.Word w e = false_true e

-- where none stands, none goes on
none_compares : (ts : List Lexeme) → ((t : Lexeme) (rest : List Lexeme) → ts ≡ t ∷ rest → (o : Binary) × (comparison_of t.kind ≡ Some o) → ⊥) → Stops (member signs) ts
none_compares [] f = tt
none_compares (t ∷ ts) f = is_not (member signs t.kind t.content) (λ e. absurd (f t ts refl (kind_compares t.kind t.content e)))

compared_goes_on : (s : Symbol) (o : Binary) (w : Text) → compared s ≡ Some o → member comparison_more (token.Symbol s) w ≡ true
compared_goes_on symbol.Eq o w e = refl
compared_goes_on symbol.Ne o w e = refl
compared_goes_on symbol.Lt o w e = refl
compared_goes_on symbol.Le o w e = refl
compared_goes_on symbol.Gt o w e = refl
compared_goes_on symbol.Ge o w e = refl
compared_goes_on s o w e = absurd (cc)

only_one : (b : Bool) → let z : ℕ = if b then 0 else 0 in z ≡ 0
only_one true = refl
only_one false = refl

single : (ts : List Lexeme) → choice (of_exp comparison) ts ≡ 0
single [] = refl
single (t ∷ ts) = only_one _

module _ (n : ℕ) (tokens : List Lexeme) where
  ends : (j : ℕ) → ComparisonAt tokens j None → Stops (member cons_more) (drop j tokens) → Stops (member comparison_more) (drop j tokens)
  ends j o s = stops_both signs cons_more (drop j tokens) (none_compares (drop j tokens) o.other) s

  -- ---- the right side

  tail_read : (i next j : ℕ) (s : Symbol) (o : Binary) (b : Exp) → compared s ≡ Some o → IsAt tokens i next (OfKind (token.Symbol s)) → Read language n (of_exp cons) (drop next tokens) (drop j tokens) b → Stops (member comparison_more) (drop j tokens) →
      Read language n (of_exp comparison_tail) (drop i tokens) (drop j tokens) (Some (o, b))
  tail_read i next j symbol.Eq o b q a h st = let w : o ≡ op.Eq = cc in
      reads_by 1 n (omega arith) (record { v = (b, tt); span = no_span; is_span = refl; allowed = refl; builds = ap (λ z. Some (z, b)) w; fills = a_mark a (an_one h nothing) }) st
  tail_read i next j symbol.Ne o b q a h st = let w : o ≡ op.Ne = cc in
      reads_by 2 n (omega arith) (record { v = (b, tt); span = no_span; is_span = refl; allowed = refl; builds = ap (λ z. Some (z, b)) w; fills = a_mark a (an_one h nothing) }) st
  tail_read i next j symbol.Lt o b q a h st = let w : o ≡ op.Lt = cc in
      reads_by 3 n (omega arith) (record { v = (b, tt); span = no_span; is_span = refl; allowed = refl; builds = ap (λ z. Some (z, b)) w; fills = a_mark a (an_one h nothing) }) st
  tail_read i next j symbol.Le o b q a h st = let w : o ≡ op.Le = cc in
      reads_by 4 n (omega arith) (record { v = (b, tt); span = no_span; is_span = refl; allowed = refl; builds = ap (λ z. Some (z, b)) w; fills = a_mark a (an_one h nothing) }) st
  tail_read i next j symbol.Gt o b q a h st = let w : o ≡ op.Gt = cc in
      reads_by 5 n (omega arith) (record { v = (b, tt); span = no_span; is_span = refl; allowed = refl; builds = ap (λ z. Some (z, b)) w; fills = a_mark a (an_one h nothing) }) st
  tail_read i next j symbol.Ge o b q a h st = let w : o ≡ op.Ge = cc in
      reads_by 6 n (omega arith) (record { v = (b, tt); span = no_span; is_span = refl; allowed = refl; builds = ap (λ z. Some (z, b)) w; fills = a_mark a (an_one h nothing) }) st
  tail_read i next j s o b q a h st = absurd (cc)

  tail_refused : (i next : ℕ) (s : Symbol) (o : Binary) {r : Refusal} → compared s ≡ Some o → IsAt tokens i next (OfKind (token.Symbol s)) → Refused language n (of_exp cons) (drop next tokens) r → Refused language n (of_exp comparison_tail) (drop i tokens) r
  tail_refused i next symbol.Eq o q a h = refused_by decided 1 n (omega arith) (chosen_mark_at (choice (of_exp comparison_tail)) a (λ w s us. refl)) (mark_read a (one_refused h))
  tail_refused i next symbol.Ne o q a h = refused_by decided 2 n (omega arith) (chosen_mark_at (choice (of_exp comparison_tail)) a (λ w s us. refl)) (mark_read a (one_refused h))
  tail_refused i next symbol.Lt o q a h = refused_by decided 3 n (omega arith) (chosen_mark_at (choice (of_exp comparison_tail)) a (λ w s us. refl)) (mark_read a (one_refused h))
  tail_refused i next symbol.Le o q a h = refused_by decided 4 n (omega arith) (chosen_mark_at (choice (of_exp comparison_tail)) a (λ w s us. refl)) (mark_read a (one_refused h))
  tail_refused i next symbol.Gt o q a h = refused_by decided 5 n (omega arith) (chosen_mark_at (choice (of_exp comparison_tail)) a (λ w s us. refl)) (mark_read a (one_refused h))
  tail_refused i next symbol.Ge o q a h = refused_by decided 6 n (omega arith) (chosen_mark_at (choice (of_exp comparison_tail)) a (λ w s us. refl)) (mark_read a (one_refused h))
  tail_refused i next s o q a h = absurd (cc)

  tail_chain : (i next j : ℕ) (s : Symbol) (o : Binary) {b : Exp} {r : Refusal} → compared s ≡ Some o → IsAt tokens i next (OfKind (token.Symbol s)) → Read language n (of_exp cons) (drop next tokens) (drop j tokens) b → Says r 5 [] [] →
      starts (member comparison_more) (drop j tokens) ≡ true → Refused language n (of_exp comparison_tail) (drop i tokens) r
  tail_chain i next j symbol.Eq o q a h says st = refused_by decided 1 n (omega arith) (chosen_mark_at (choice (of_exp comparison_tail)) a (λ w s us. refl)) (mark_read a (one_read decided h (cannot_end comparison_more says st (λ p. p.stops))))
  tail_chain i next j symbol.Ne o q a h says st = refused_by decided 2 n (omega arith) (chosen_mark_at (choice (of_exp comparison_tail)) a (λ w s us. refl)) (mark_read a (one_read decided h (cannot_end comparison_more says st (λ p. p.stops))))
  tail_chain i next j symbol.Lt o q a h says st = refused_by decided 3 n (omega arith) (chosen_mark_at (choice (of_exp comparison_tail)) a (λ w s us. refl)) (mark_read a (one_read decided h (cannot_end comparison_more says st (λ p. p.stops))))
  tail_chain i next j symbol.Le o q a h says st = refused_by decided 4 n (omega arith) (chosen_mark_at (choice (of_exp comparison_tail)) a (λ w s us. refl)) (mark_read a (one_read decided h (cannot_end comparison_more says st (λ p. p.stops))))
  tail_chain i next j symbol.Gt o q a h says st = refused_by decided 5 n (omega arith) (chosen_mark_at (choice (of_exp comparison_tail)) a (λ w s us. refl)) (mark_read a (one_read decided h (cannot_end comparison_more says st (λ p. p.stops))))
  tail_chain i next j symbol.Ge o q a h says st = refused_by decided 6 n (omega arith) (chosen_mark_at (choice (of_exp comparison_tail)) a (λ w s us. refl)) (mark_read a (one_read decided h (cannot_end comparison_more says st (λ p. p.stops))))
  tail_chain i next j s o q a h says st = absurd (cc)

  -- ---- comparisons

  pub comparison_first : (i : ℕ) {r : Refusal} → Refused language n (of_exp cons) (drop i tokens) r → Refused language n (of_exp comparison) (drop i tokens) r
  comparison_first i h = refused_by decided 0 n (omega arith) (single (drop i tokens)) (one_refused h)

  pub comparison_plain : (i j : ℕ) {a : Exp} → Moves tokens i j → Read language n (of_exp cons) (drop i tokens) (drop j tokens) a → ComparisonAt tokens j None → Read language n (of_exp comparison) (drop i tokens) (drop j tokens) a
  comparison_plain i j {a = a} m h o = let st = ends j o h.stops in
      let t : Read language n (of_exp comparison_tail) (drop j tokens) (drop j tokens) None = reads_by 0 n (omega arith) (record { v = tt; span = no_span; is_span = refl; allowed = refl; builds = refl; fills = nothing }) st in
      let f = an_one {n = n} h (an_one t nothing) in
      reads_by 0 n (omega arith) (record { v = (a, (None, tt)); span = span_of tokens i j; fills = f; is_span = covers tokens i j m f.taken f.split; allowed = refl; builds = refl }) st

  module _ (i j k : ℕ) {a : Exp} {o : Binary} (h : Read language n (of_exp cons) (drop i tokens) (drop j tokens) a) (q : ComparisonAt tokens j (Some o)) where
    pub comparison_right : {r : Refusal} → Refused language n (of_exp cons) (drop (j + 1) tokens) r → Refused language n (of_exp comparison) (drop i tokens) r
    comparison_right g = refused_by decided 0 n (omega arith) (single (drop i tokens)) (one_read decided h (one_refused (tail_refused j (j + 1) q.0 o q.2 q.1 g)))

    module _ {b : Exp} (g : Read language n (of_exp cons) (drop (j + 1) tokens) (drop k tokens) b) where
      pub comparison_chain : {p : Binary} {r : Refusal} → Says r 5 [] [] → ComparisonAt tokens k (Some p) → Refused language n (of_exp comparison) (drop i tokens) r
      comparison_chain {p = p} says e = refused_by decided 0 n (omega arith) (single (drop i tokens)) (one_read decided h (one_refused (tail_chain j (j + 1) k q.0 o q.2 q.1 g says (starts_at (member comparison_more) e.1 (λ w. compared_goes_on e.0 p w e.2)))))

      pub comparison_read : Moves tokens i k → ComparisonAt tokens k None → Read language n (of_exp comparison) (drop i tokens) (drop k tokens) (at (span_of tokens i k) (form.Binary o a b))
      comparison_read m e = let st = ends k e g.stops in let t = tail_read j (j + 1) k q.0 o b q.2 q.1 g st in let f = an_one {n = n} h (an_one t nothing) in
          reads_by 0 n (omega arith) (record { v = (a, (Some (o, b), tt)); span = span_of tokens i k; fills = f; is_span = covers tokens i k m f.taken f.split; allowed = refl; builds = refl }) st
