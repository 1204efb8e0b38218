-- Patterns by their first tokens.
use Rattle.std.specs.Prelude.{◌≡◌, ℕ, Bool, true, false, ◌||◌, List, [], ◌∷◌, drop, codes, Option, refl}
use Rattle.std.specs.Str.{bytes_eq}
use Rattle.std.proofs.Common.{sym, ◌∙◌, subst, arith}
use Rattle.ur_base.specs.declared.refusal.Span.{Span}
use Rattle.ur_base.specs.declared.refusal.Refusal.{Refusal}
use Rattle.ur_base.specs.Stopping.{Says}
use Rattle.ur_lex.specs.declared.token.Symbol.TheVariants as symbol
use Rattle.ur_lex.specs.declared.token.TokenKind.TheVariants as token
use Rattle.ur_lex.specs.declared.token.Lexeme.{Lexeme}
use Rattle.ur_lex.specs.Spelling.{Text}
use Rattle.ur_syntax.specs.declared.exp.Binder.{Binder}
use Rattle.ur_syntax.specs.declared.exp.Binder.TheVariants as binders
use Rattle.ur_syntax.specs.declared.exp.PatForm.{PatForm}
use Rattle.ur_syntax.specs.declared.exp.PatForm.TheVariants as form
use Rattle.ur_parse_rules.specs.Rules.{Read, Refused, Stops, syntax}
use Rattle.ur_parse_rules.specs.Places.{Moves, IsAt, IsName, Other, OfKind, Spelled, Passing, Unexpected, any, span_of, starts}
use Rattle.ur_parse_rules.specs.Numbers.{IsInt}
use Rattle.ur_parse_rules.proofs.Tokens.{covers}
use Rattle.ur_parse_rules.proofs.Steps.{nothing, a_mark, a_word, a_name, a_number, an_one, mark_read, word_read, name_read, one_read, one_refused, no_mark, no_name, not_mark, not_word, not_name, any_other, reads_by, refused_by, none_of}
use Rattle.ur_parse_rules.proofs.Numbers.{number_read, no_number, not_number}
use Rattle.ur_parse_rules.proofs.Choices.{chosen_mark_at, chosen_word_at, chosen_name_at, if_true, if_false, first_stops}
use Rattle.ur_parse_rules.specs.Classes.{member, in_class, symbol_class}
use Rattle.ur_parse_rules.specs.Ends.{dot_class, binder_starts}
use Rattle.ur_parse_rules.specs.Words.{is_constructor}
use Rattle.ur_parse_rules.specs.ExpParts.{binder, pat, pat_cons, pat_rest}
use Rattle.ur_parse_rules.specs.Parts.{of_exp}
use Rattle.ur_parse_rules.specs.Patterns.{cons_of, constructor_of}
use Rattle.ur_parse_rules.specs.Language.{language}
use Rattle.ur_parse_rules.proofs.Choice.{choice}
use Rattle.ur_parse_rules.proofs.AllDecided.{decided}
use Rattle.ur_parse_rules.proofs.Tests.{false_true, not_true, or_first}
use Rattle.ur_parse_con.specs.Forms.{pat_more, RestReads, IsForm, NoneOpens, NoLiteral}
use Rattle.ur_parse_con.proofs.Binders.{cannot_end}

-- ---- binders

module _ {tokens : List Lexeme} {at : ℕ} where
  module _ {next : ℕ} (a : IsAt tokens at next (OfKind (token.Symbol symbol.Underscore))) where
    pub wild_refused : {n : ℕ} {r : Refusal} → Refused language n (of_exp pat_cons) (drop next tokens) r → Refused language n (of_exp pat) (drop at tokens) r
    wild_refused {n = n} h = refused_by decided 0 n (omega arith) (chosen_mark_at (choice (of_exp pat)) a (λ w s us. refl)) (mark_read a (one_refused h))

    pub wild_form : (end : ℕ) {b : Option Binder} → Moves tokens at end → ((n : ℕ) → Read language n (of_exp pat_cons) (drop next tokens) (drop end tokens) b) → IsForm tokens at end (cons_of form.Wild binders.Ignored b)
    wild_form end {b = b} m h = record {
      ends = λ s n. let fl = a_mark {n = n} a (an_one (h n) nothing) in
          reads_by 0 n (omega arith) (record { v = (b, tt); span = span_of tokens at end; fills = fl; is_span = covers tokens at end m fl.taken fl.split; allowed = refl; builds = refl }) (first_stops (member pat_more) (drop end tokens) s);
      goes_on = λ s r says n. refused_by decided 0 n (omega arith) (chosen_mark_at (choice (of_exp pat)) a (λ w s us. refl)) (mark_read a (one_read decided (h n) (cannot_end pat_more says s (λ p. p.stops))));
    }

  pub no_variable : {n next : ℕ} {r : Refusal} → IsAt tokens at next (OfKind token.Lower) → Unexpected tokens at (Passing token.Lower any) r → Refused language n (of_exp pat) (drop at tokens) r
  no_variable {n = n} a u = refused_by decided 1 n (omega arith) (chosen_mark_at (choice (of_exp pat)) a (λ w s us. refl)) (no_name u)

  variable_chosen : {next : ℕ} {x : Text} → IsName tokens at next token.Lower any x → choice (of_exp pat) (drop at tokens) ≡ 1
  variable_chosen a = chosen_name_at (choice (of_exp pat)) a (λ w s us h. refl)

  module _ {next : ℕ} {x : Text} (a : IsName tokens at next token.Lower any x) where
    pub variable_refused : {n : ℕ} {r : Refusal} → Refused language n (of_exp pat_cons) (drop next tokens) r → Refused language n (of_exp pat) (drop at tokens) r
    variable_refused {n = n} h = refused_by decided 1 n (omega arith) (variable_chosen a) (name_read a (one_refused h))

    pub variable_form : (end : ℕ) {b : Option Binder} → Moves tokens at end → ((n : ℕ) → Read language n (of_exp pat_cons) (drop next tokens) (drop end tokens) b) → IsForm tokens at end (cons_of (form.Var x) (binders.Named x) b)
    variable_form end {b = b} m h = record {
      ends = λ s n. let fl = a_name {n = n} a (an_one (h n) nothing) in
          reads_by 1 n (omega arith) (record { v = (x, (b, tt)); span = span_of tokens at end; fills = fl; is_span = covers tokens at end m fl.taken fl.split; allowed = refl; builds = refl }) (first_stops (member pat_more) (drop end tokens) s);
      goes_on = λ s r says n. refused_by decided 1 n (omega arith) (variable_chosen a) (name_read a (one_read decided (h n) (cannot_end pat_more says s (λ p. p.stops))));
    }

-- ---- ints, strings and `[]`

module _ {tokens : List Lexeme} {at : ℕ} where
  pub int_form : {end m : ℕ} → Moves tokens at end → IsAt tokens at end (OfKind (token.Int m)) → IsForm tokens at end (form.Int m)
  int_form {end = end} {m = m} o a = record {
    ends = λ s n. let fl = a_number {n = n} a nothing in
        reads_by 2 n (omega arith) (record { v = (m, tt); span = span_of tokens at end; fills = fl; is_span = covers tokens at end o fl.taken fl.split; allowed = refl; builds = refl }) (first_stops (member pat_more) (drop end tokens) s);
    goes_on = λ s r says n. refused_by decided 2 n (omega arith) (chosen_mark_at (choice (of_exp pat)) a (λ w s us. refl)) (number_read a (cannot_end pat_more says s (λ p. p.stops)));
  }

  module _ {next : ℕ} (a : IsAt tokens at next (OfKind (token.Symbol symbol.Minus))) where
    pub minus_refused : {n : ℕ} {r : Refusal} → Says r 5 [] [] → Other tokens next IsInt → Refused language n (of_exp pat) (drop at tokens) r
    minus_refused {n = n} says o = refused_by decided 3 n (omega arith) (chosen_mark_at (choice (of_exp pat)) a (λ w s us. refl)) (mark_read a (no_number (record { says = says; other = o })))

    pub negative_form : {end m : ℕ} → Moves tokens at end → IsAt tokens next end (OfKind (token.Int m)) → IsForm tokens at end (form.Negative m)
    negative_form {end = end} {m = m} o b = record {
      ends = λ s n. let fl = a_mark {n = n} a (a_number b nothing) in
          reads_by 3 n (omega arith) (record { v = (m, tt); span = span_of tokens at end; fills = fl; is_span = covers tokens at end o fl.taken fl.split; allowed = refl; builds = refl }) (first_stops (member pat_more) (drop end tokens) s);
      goes_on = λ s r says n. refused_by decided 3 n (omega arith) (chosen_mark_at (choice (of_exp pat)) a (λ w s us. refl)) (mark_read a (number_read b (cannot_end pat_more says s (λ p. p.stops))));
    }

  pub no_string : {n next : ℕ} {r : Refusal} → IsAt tokens at next (OfKind token.Str) → Unexpected tokens at (Passing token.Str any) r → Refused language n (of_exp pat) (drop at tokens) r
  no_string {n = n} a u = refused_by decided 4 n (omega arith) (chosen_mark_at (choice (of_exp pat)) a (λ w s us. refl)) (no_name u)

  pub string_form : {end : ℕ} {x : Text} → Moves tokens at end → IsName tokens at end token.Str any x → IsForm tokens at end (form.Str x)
  string_form {end = end} {x = x} o a = record {
    ends = λ s n. let fl = a_name {n = n} a nothing in
        reads_by 4 n (omega arith) (record { v = (x, tt); span = span_of tokens at end; fills = fl; is_span = covers tokens at end o fl.taken fl.split; allowed = refl; builds = refl }) (first_stops (member pat_more) (drop end tokens) s);
    goes_on = λ s r says n. refused_by decided 4 n (omega arith) (chosen_name_at (choice (of_exp pat)) a (λ w s us h. refl)) (name_read a (cannot_end pat_more says s (λ p. p.stops)));
  }

  module _ {next : ℕ} (a : IsAt tokens at next (OfKind (token.Symbol symbol.LBracket))) where
    pub nil_refused : {n : ℕ} {r : Refusal} → Unexpected tokens next (OfKind (token.Symbol symbol.RBracket)) r → Refused language n (of_exp pat) (drop at tokens) r
    nil_refused {n = n} u = refused_by decided 9 n (omega arith) (chosen_mark_at (choice (of_exp pat)) a (λ w s us. refl)) (mark_read a (no_mark u))

    pub nil_form : {end : ℕ} → Moves tokens at end → IsAt tokens next end (OfKind (token.Symbol symbol.RBracket)) → IsForm tokens at end form.Nil
    nil_form {end = end} o b = record {
      ends = λ s n. let fl = a_mark {n = n} a (a_mark b nothing) in
          reads_by 9 n (omega arith) (record { v = tt; span = span_of tokens at end; fills = fl; is_span = covers tokens at end o fl.taken fl.split; allowed = refl; builds = refl }) (first_stops (member pat_more) (drop end tokens) s);
      goes_on = λ s r says n. refused_by decided 9 n (omega arith) (chosen_mark_at (choice (of_exp pat)) a (λ w s us. refl)) (mark_read a (mark_read b (cannot_end pat_more says s (λ p. p.stops))));
    }

-- ---- words in capitals

module _ {tokens : List Lexeme} {at end : ℕ} (o : Moves tokens at end) where
  pub true_form : IsAt tokens at end (Spelled token.Upper (codes "True")) → IsForm tokens at end form.True
  true_form a = record {
    ends = λ s n. let fl = a_word {n = n} a nothing in
        reads_by 5 n (omega arith) (record { v = tt; span = span_of tokens at end; fills = fl; is_span = covers tokens at end o fl.taken fl.split; allowed = refl; builds = refl }) (first_stops (member pat_more) (drop end tokens) s);
    goes_on = λ s r says n. refused_by decided 5 n (omega arith) (chosen_word_at (choice (of_exp pat)) a (λ s us. refl)) (word_read a (cannot_end pat_more says s (λ p. p.stops)));
  }

  pub false_form : IsAt tokens at end (Spelled token.Upper (codes "False")) → IsForm tokens at end form.False
  false_form a = record {
    ends = λ s n. let fl = a_word {n = n} a nothing in
        reads_by 6 n (omega arith) (record { v = tt; span = span_of tokens at end; fills = fl; is_span = covers tokens at end o fl.taken fl.split; allowed = refl; builds = refl }) (first_stops (member pat_more) (drop end tokens) s);
    goes_on = λ s r says n. refused_by decided 6 n (omega arith) (chosen_word_at (choice (of_exp pat)) a (λ s us. refl)) (word_read a (cannot_end pat_more says s (λ p. p.stops)));
  }

  pub none_form : IsAt tokens at end (Spelled token.Upper (codes "None")) → IsForm tokens at end form.None
  none_form a = record {
    ends = λ s n. let fl = a_word {n = n} a nothing in
        reads_by 7 n (omega arith) (record { v = tt; span = span_of tokens at end; fills = fl; is_span = covers tokens at end o fl.taken fl.split; allowed = refl; builds = refl }) (first_stops (member pat_more) (drop end tokens) s);
    goes_on = λ s r says n. refused_by decided 7 n (omega arith) (chosen_word_at (choice (of_exp pat)) a (λ s us. refl)) (word_read a (cannot_end pat_more says s (λ p. p.stops)));
  }

module _ {tokens : List Lexeme} {at next : ℕ} (a : IsAt tokens at next (Spelled token.Upper (codes "Some"))) where
  pub some_refused : {n : ℕ} {r : Refusal} → Refused language n (of_exp binder) (drop next tokens) r → Refused language n (of_exp pat) (drop at tokens) r
  some_refused {n = n} h = refused_by decided 8 n (omega arith) (chosen_word_at (choice (of_exp pat)) a (λ s us. refl)) (word_read a (one_refused h))

  pub some_form : (end : ℕ) {b : Binder} → Moves tokens at end → ((n : ℕ) → Read language n (of_exp binder) (drop next tokens) (drop end tokens) b) → IsForm tokens at end (form.Some b)
  some_form end {b = b} o h = record {
    ends = λ s n. let fl = a_word {n = n} a (an_one (h n) nothing) in
        reads_by 8 n (omega arith) (record { v = (b, tt); span = span_of tokens at end; fills = fl; is_span = covers tokens at end o fl.taken fl.split; allowed = refl; builds = refl }) (first_stops (member pat_more) (drop end tokens) s);
    goes_on = λ s r says n. refused_by decided 8 n (omega arith) (chosen_word_at (choice (of_exp pat)) a (λ s us. refl)) (word_read a (one_read decided (h n) (cannot_end pat_more says s (λ p. p.stops))));
  }

left_false : (a b : Bool) → (a || b) ≡ false → (a || false) ≡ false
left_false true b e = e
left_false false b e = refl

right_false : (a b : Bool) → (a || b) ≡ false → b ≡ false
right_false true b e = false_true (sym e)
right_false false b e = e

-- a word that is none of patterns chooses the last rule
constructor_chosen : (w : Text) (s : Span) (us : List Lexeme) → is_constructor w ≡ true → choice (of_exp pat) (record { kind = token.Upper; content = w; span = s } ∷ us) ≡ 10
constructor_chosen w s us h = let t = bytes_eq w (codes "True") in let f = bytes_eq w (codes "False") in let n = bytes_eq w (codes "None") in let m = bytes_eq w (codes "Some") in
    let e : (t || (f || (n || (m || false)))) ≡ false = not_true (t || (f || (n || (m || false)))) h in let e1 = right_false t _ e in let e2 = right_false f _ e1 in let e3 = right_false n _ e2 in
    if_false 5 (left_false t _ e) ∙ if_false 6 (left_false f _ e1) ∙ if_false 7 (left_false n _ e2) ∙ if_false 8 e3 ∙ if_true 10 (or_first (is_constructor w) false h)

module _ {tokens : List Lexeme} {at next : ℕ} {x : Text} (a : IsName tokens at next token.Upper is_constructor x) where
  pub capital_refused : {n : ℕ} {r : Refusal} → Refused language n (of_exp pat_rest) (drop next tokens) r → Refused language n (of_exp pat) (drop at tokens) r
  capital_refused {n = n} h = refused_by decided 10 n (omega arith) (chosen_name_at (choice (of_exp pat)) a (λ w s us e. constructor_chosen w s us e)) (name_read a (one_refused h))

  pub capital_form : (end : ℕ) {f : PatForm} → Moves tokens at end → RestReads tokens next end x f → IsForm tokens at end f
  capital_form end {f = f} o h = let q : IsForm tokens at end (constructor_of x h.rest) = record {
    ends = λ s n. let fl = a_name {n = n} a (an_one (h.read n) nothing) in
        reads_by 10 n (omega arith) (record { v = (x, (h.rest, tt)); span = span_of tokens at end; fills = fl; is_span = covers tokens at end o fl.taken fl.split; allowed = refl; builds = refl }) (first_stops (member pat_more) (drop end tokens) s);
    goes_on = λ s r says n. refused_by decided 10 n (omega arith) (chosen_name_at (choice (of_exp pat)) a (λ w s us e. constructor_chosen w s us e)) (name_read a (one_read decided (h.read n) (cannot_end pat_more says s (λ p. p.stops))));
  } in subst (λ z. IsForm tokens at end z) (sym h.is) q

-- where no pattern begins
pub none_begins : {n : ℕ} {tokens : List Lexeme} {at : ℕ} {r : Refusal} → NoneOpens tokens at → NoLiteral tokens at → Other tokens at (Spelled token.Upper (codes "True")) → Other tokens at (Spelled token.Upper (codes "False")) →
    Other tokens at (Spelled token.Upper (codes "None")) → Other tokens at (Spelled token.Upper (codes "Some")) → Unexpected tokens at (Passing token.Upper is_constructor) r → Refused language n (of_exp pat) (drop at tokens) r
none_begins o l t f e s u = syntax u.says (none_of (
  not_mark o.underscore,
  (
    not_name (any_other any o.variable),
    (not_number l.int, (not_mark o.minus, (not_name (any_other any l.string), (not_word t, (not_word f, (not_word e, (not_word s, (not_mark o.bracket, (not_name u.other, tt))))))))),
  ),
))

-- ---- whether a pattern goes on

skipped : (a b : Bool) → (a || false) ≡ false → b ≡ (a || b)
skipped true b e = false_true (sym e)
skipped false b e = refl

-- where neither `::` nor a dot stands, a binder alone goes on
pub goes_on_by : (ts : List Lexeme) → Stops (member (symbol_class symbol.DoubleColon ∷ [])) ts → Stops (member (dot_class ∷ [])) ts → starts (member binder_starts) ts ≡ starts (member pat_more) ts
goes_on_by [] a b = refl
goes_on_by (t ∷ ts) a b = skipped (in_class dot_class t.kind t.content) (member binder_starts t.kind t.content) b ∙ skipped (in_class (symbol_class symbol.DoubleColon) t.kind t.content) (member (dot_class ∷ binder_starts) t.kind t.content) a
