-- Binders, and what stands behind the begin of a pattern.
use Rattle.std.specs.Prelude.{◌≡◌, ℕ, Bool, true, false, if◌then◌else◌, List, [], ◌∷◌, drop, Some, None, refl}
use Rattle.std.proofs.Common.{sym, ◌∙◌, inl, inr, arith}
use Rattle.ur_base.specs.declared.refusal.Refusal.{Refusal}
use Rattle.ur_base.specs.Stopping.{Says}
use Rattle.ur_lex.specs.declared.token.Symbol.TheVariants as symbol
use Rattle.ur_lex.specs.declared.token.TokenKind.TheVariants as token
use Rattle.ur_lex.specs.declared.token.Lexeme.{Lexeme}
use Rattle.ur_lex.specs.Spelling.{Text}
use Rattle.ur_syntax.specs.declared.exp.Binder.{Binder}
use Rattle.ur_syntax.specs.declared.exp.Binder.TheVariants as binders
use Rattle.ur_syntax.specs.declared.exp.Argument.{Argument}
use Rattle.ur_syntax.specs.declared.exp.Argument.TheVariants as arguments
use Rattle.ur_parse_rules.specs.Rules.{Read, Refused, Stops, no_span, syntax}
use Rattle.ur_parse_rules.specs.Places.{Moves, IsAt, IsName, Other, OfKind, Passing, Unexpected, any, starts}
use Rattle.ur_parse_rules.proofs.Steps.{Failing, nothing, a_mark, a_name, an_one, mark_read, name_read, one_read, one_refused, no_name, not_mark, not_name, reads_by, refused_by, none_of}
use Rattle.ur_parse_rules.proofs.Choices.{chosen_mark_at, if_true, if_false, stops_first, first_stops, starts_at}
use Rattle.ur_parse_rules.specs.Classes.{Classes, member, symbol_class}
use Rattle.ur_parse_rules.specs.Ends.{binder_starts, dot_class}
use Rattle.ur_parse_rules.specs.ExpParts.{binder, pat_cons, pat_rest, pat_argument}
use Rattle.ur_parse_rules.specs.Parts.{of_exp, argument, of_module}
use Rattle.ur_parse_rules.specs.Language.{language}
use Rattle.ur_parse_rules.proofs.Choice.{choice}
use Rattle.ur_parse_rules.proofs.AllDecided.{decided}
use Rattle.ur_parse_rules.proofs.Tests.{false_true}
use Rattle.ur_parse_rules.proofs.Places.{ends_empty, missing, stops_cons, may_not_end}
use Rattle.ur_parse_con.specs.Forms.{Stays}

-- what is read may not end before what goes on
pub cannot_end : {n : ℕ} {tokens : List Lexeme} {r : Refusal} {P : Unit {0} → List Lexeme → Type 0} (c : Classes) → Says r 5 [] [] → starts (member c) tokens ≡ true → (P tt tokens → Stops (member c) tokens) → Failing language n [] P tokens r
cannot_end {tokens = tokens} c says s h = may_not_end says (λ p. false_true (sym (stops_first (member c) tokens (h p)) ∙ s))

pub stays_on : {tokens : List Lexeme} {i j k : ℕ} → Moves tokens i j → Stays tokens j k → Moves tokens i k
stays_on m (inl e) = rw e m
stays_on m (inr o) = let a = m.on in let b = o.on in record { on = omega (arith, a, b); within = o.within }

-- ---- binders

module _ {n : ℕ} {tokens : List Lexeme} {at : ℕ} where
  pub ignored : {next : ℕ} → IsAt tokens at next (OfKind (token.Symbol symbol.Underscore)) → Read language n (of_exp binder) (drop at tokens) (drop next tokens) binders.Ignored
  ignored a = reads_by 0 n (omega arith) (record { v = tt; span = no_span; is_span = refl; allowed = refl; builds = refl; fills = a_mark a nothing }) (ends_empty _)

  pub variable : {next : ℕ} {x : Text} → IsName tokens at next token.Lower any x → Read language n (of_exp binder) (drop at tokens) (drop next tokens) (binders.Named x)
  variable {x = x} a = reads_by 1 n (omega arith) (record { v = (x, tt); span = no_span; is_span = refl; allowed = refl; builds = refl; fills = a_name a nothing }) (ends_empty _)

  pub no_binder : {r : Refusal} → Other tokens at (OfKind (token.Symbol symbol.Underscore)) → Unexpected tokens at (Passing token.Lower any) r → Refused language n (of_exp binder) (drop at tokens) r
  no_binder o u = syntax u.says (none_of (not_mark o, (not_name u.other, tt)))

-- ---- `:: binder`

module _ {n : ℕ} {tokens : List Lexeme} {at : ℕ} where
  pub tail_none : Other tokens at (OfKind (token.Symbol symbol.DoubleColon)) → Read language n (of_exp pat_cons) (drop at tokens) (drop at tokens) None
  tail_none o = reads_by 0 n (omega arith) (record { v = tt; span = no_span; is_span = refl; allowed = refl; builds = refl; fills = nothing }) (missing refl o)

  module _ {next : ℕ} (a : IsAt tokens at next (OfKind (token.Symbol symbol.DoubleColon))) where
    pub tail_refused : {r : Refusal} → Refused language n (of_exp binder) (drop next tokens) r → Refused language n (of_exp pat_cons) (drop at tokens) r
    tail_refused h = refused_by decided 1 n (omega arith) (chosen_mark_at (choice (of_exp pat_cons)) a (λ w s us. refl)) (mark_read a (one_refused h))

    pub tail_twice : {end past : ℕ} {b : Binder} {r : Refusal} → Read language n (of_exp binder) (drop next tokens) (drop end tokens) b → Says r 5 [] [] → IsAt tokens end past (OfKind (token.Symbol symbol.DoubleColon)) →
        Refused language n (of_exp pat_cons) (drop at tokens) r
    tail_twice h says e = refused_by decided 1 n (omega arith) (chosen_mark_at (choice (of_exp pat_cons)) a (λ w s us. refl))
        (mark_read a (one_read decided h (cannot_end (symbol_class symbol.DoubleColon ∷ []) says (starts_at (member (symbol_class symbol.DoubleColon ∷ [])) e (λ w. refl)) (λ p. p.stops))))

    pub tail_read : {end : ℕ} {b : Binder} → Read language n (of_exp binder) (drop next tokens) (drop end tokens) b → Other tokens end (OfKind (token.Symbol symbol.DoubleColon)) → Read language n (of_exp pat_cons) (drop at tokens) (drop end tokens) (Some b)
    tail_read {b = b} h o = reads_by 1 n (omega arith) (record { v = (b, tt); span = no_span; is_span = refl; allowed = refl; builds = refl; fills = a_mark a (an_one h nothing) }) (missing refl o)

-- ---- an argument

bound_chosen : (ts : List Lexeme) → starts (member binder_starts) ts ≡ true → choice (of_exp pat_argument) ts ≡ 1
bound_chosen [] e = false_true e
bound_chosen (t ∷ ts) e = if_true 0 e

module _ {n : ℕ} (tokens : List Lexeme) (at : ℕ) where
  pub argument_none : starts (member binder_starts) (drop at tokens) ≡ false → Read language n (of_exp pat_argument) (drop at tokens) (drop at tokens) arguments.Absent
  argument_none s = reads_by 0 n (omega arith) (record { v = tt; span = no_span; is_span = refl; allowed = refl; builds = refl; fills = nothing }) (first_stops (member binder_starts) (drop at tokens) s)

  module _ (s : starts (member binder_starts) (drop at tokens) ≡ true) where
    pub argument_refused : {r : Refusal} → Refused language n (of_exp binder) (drop at tokens) r → Refused language n (of_exp pat_argument) (drop at tokens) r
    argument_refused h = refused_by decided 1 n (omega arith) (bound_chosen (drop at tokens) s) (one_refused h)

    pub argument_twice : (end : ℕ) {b : Binder} {r : Refusal} → Read language n (of_exp binder) (drop at tokens) (drop end tokens) b → Says r 5 [] [] → starts (member binder_starts) (drop end tokens) ≡ true →
        Refused language n (of_exp pat_argument) (drop at tokens) r
    argument_twice end h says e = refused_by decided 1 n (omega arith) (bound_chosen (drop at tokens) s) (one_read decided h (cannot_end binder_starts says e (λ p. p.stops)))

    pub argument_read : (end : ℕ) {b : Binder} → Read language n (of_exp binder) (drop at tokens) (drop end tokens) b → starts (member binder_starts) (drop end tokens) ≡ false →
        Read language n (of_exp pat_argument) (drop at tokens) (drop end tokens) (arguments.Bound b)
    argument_read end {b = b} h e = reads_by 1 n (omega arith) (record { v = (b, tt); span = no_span; is_span = refl; allowed = refl; builds = refl; fills = an_one h nothing }) (first_stops (member binder_starts) (drop end tokens) e)

-- ---- behind a word in capitals

first_or_other : (b c : Bool) → c ≡ false → let z : ℕ = if b then 0 else (if c then 1 else 0) in z ≡ 0
first_or_other true c e = refl
first_or_other false c e = if_false 1 e

undotted : (ts : List Lexeme) → Stops (member (dot_class ∷ [])) ts → choice (of_exp pat_rest) ts ≡ 0
undotted [] s = refl
undotted (t ∷ ts) s = first_or_other (member binder_starts t.kind t.content) (member (dot_class ∷ []) t.kind t.content) s

module _ {n : ℕ} (tokens : List Lexeme) (at : ℕ) where
  module _ (o : Other tokens at (OfKind (token.Symbol symbol.Dot))) where
    pub plain_refused : {r : Refusal} → Refused language n (of_exp pat_argument) (drop at tokens) r → Refused language n (of_exp pat_rest) (drop at tokens) r
    plain_refused h = refused_by decided 0 n (omega arith) (undotted (drop at tokens) (missing refl o)) (one_refused h)

    pub plain_dotted : {end past : ℕ} {a : Argument} {r : Refusal} → Read language n (of_exp pat_argument) (drop at tokens) (drop end tokens) a → Says r 5 [] [] → IsAt tokens end past (OfKind (token.Symbol symbol.Dot)) →
        Refused language n (of_exp pat_rest) (drop at tokens) r
    plain_dotted h says e = refused_by decided 0 n (omega arith) (undotted (drop at tokens) (missing refl o))
        (one_read decided h (cannot_end (dot_class ∷ binder_starts) says (starts_at (member (dot_class ∷ binder_starts)) e (λ w. refl)) (λ p. p.stops)))

  pub plain_read : {end : ℕ} {a : Argument} → Read language n (of_exp pat_argument) (drop at tokens) (drop end tokens) a → Other tokens end (OfKind (token.Symbol symbol.Dot)) →
      Read language n (of_exp pat_rest) (drop at tokens) (drop end tokens) (argument a)
  plain_read {end = end} {a = a} h e = reads_by 0 n (omega arith) (record { v = (a, tt); span = no_span; is_span = refl; allowed = refl; builds = refl; fills = an_one h nothing }) (stops_cons dot_class binder_starts (drop end tokens) (missing refl e) h.stops)

  module _ {dot : ℕ} (d : IsAt tokens at dot (OfKind (token.Symbol symbol.Dot))) where
    pub dotted_name : {r : Refusal} → Unexpected tokens dot (Passing token.Upper any) r → Refused language n (of_exp pat_rest) (drop at tokens) r
    dotted_name u = refused_by decided 1 n (omega arith) (chosen_mark_at (choice (of_exp pat_rest)) d (λ w s us. refl)) (mark_read d (no_name u))

    module _ {begin : ℕ} {x : Text} (a : IsName tokens dot begin token.Upper any x) where
      pub dotted_refused : {r : Refusal} → Refused language n (of_exp pat_argument) (drop begin tokens) r → Refused language n (of_exp pat_rest) (drop at tokens) r
      dotted_refused h = refused_by decided 1 n (omega arith) (chosen_mark_at (choice (of_exp pat_rest)) d (λ w s us. refl)) (mark_read d (name_read a (one_refused h)))

      pub dotted_dotted : {end past : ℕ} {b : Argument} {r : Refusal} → Read language n (of_exp pat_argument) (drop begin tokens) (drop end tokens) b → Says r 5 [] [] → IsAt tokens end past (OfKind (token.Symbol symbol.Dot)) →
          Refused language n (of_exp pat_rest) (drop at tokens) r
      dotted_dotted h says e = refused_by decided 1 n (omega arith) (chosen_mark_at (choice (of_exp pat_rest)) d (λ w s us. refl))
          (mark_read d (name_read a (one_read decided h (cannot_end (dot_class ∷ binder_starts) says (starts_at (member (dot_class ∷ binder_starts)) e (λ w. refl)) (λ p. p.stops)))))

      pub dotted_read : {end : ℕ} {b : Argument} → Read language n (of_exp pat_argument) (drop begin tokens) (drop end tokens) b → Other tokens end (OfKind (token.Symbol symbol.Dot)) →
          Read language n (of_exp pat_rest) (drop at tokens) (drop end tokens) (of_module x b)
      dotted_read {end = end} {b = b} h e = reads_by 1 n (omega arith) (record { v = (x, (b, tt)); span = no_span; is_span = refl; allowed = refl; builds = refl; fills = a_mark d (a_name a (an_one h nothing)) })
          (stops_cons dot_class binder_starts (drop end tokens) (missing refl e) h.stops)
