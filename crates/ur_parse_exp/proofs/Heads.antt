-- Forms of a word, at the head of an application.
use Rattle.std.specs.Prelude.{◌≡◌, ◌+◌, ℕ, true, false, List, [], ◌∷◌, drop, refl}
use Rattle.std.proofs.Common.{sym, ◌∙◌, arith}
use Rattle.ur_base.specs.declared.refusal.Refusal.{Refusal}
use Rattle.ur_base.specs.Stopping.{Says}
use Rattle.ur_lex.specs.declared.token.Symbol.TheVariants as symbol
use Rattle.ur_lex.specs.declared.token.TokenKind.TheVariants as token
use Rattle.ur_lex.specs.declared.token.Lexeme.{Lexeme}
use Rattle.ur_syntax.specs.declared.con.Con.{Con}
use Rattle.ur_syntax.specs.declared.exp.Exp.{Exp}
use Rattle.ur_syntax.specs.declared.exp.ExpForm.TheVariants as form
use Rattle.ur_parse_rules.specs.Rules.{Read, Refused, no_span, syntax}
use Rattle.ur_parse_rules.specs.Places.{Moves, IsAt, Other, OfKind, Unexpected, span_of, starts}
use Rattle.ur_parse_rules.proofs.Tokens.{covers}
use Rattle.ur_parse_rules.proofs.Steps.{nothing, a_mark, a_word, an_one, mark_read, word_read, one_read, one_refused, no_mark, not_word, reads_by, refused_by, none_of}
use Rattle.ur_parse_rules.proofs.Choices.{chosen_word_at, if_true, not_one, starts_at}
use Rattle.ur_parse_rules.specs.Classes.{member}
use Rattle.ur_parse_rules.specs.Ends.{dot_class}
use Rattle.ur_parse_rules.specs.Expressions.{at}
use Rattle.ur_parse_rules.specs.declared.parse_rules_place.ConPlace.TheVariants as places
use Rattle.ur_parse_rules.specs.ConParts as c
use Rattle.ur_parse_rules.specs.ExpParts as e
use Rattle.ur_parse_rules.specs.Parts.{of_con, of_exp}
use Rattle.ur_parse_rules.specs.Language.{language}
use Rattle.ur_parse_rules.proofs.Choice.{choice}
use Rattle.ur_parse_rules.proofs.AllDecided.{decided}
use Rattle.ur_parse_rules.proofs.Tests.{false_true}
use Rattle.ur_parse_rules.proofs.Places.{missing}
use Rattle.ur_parse_con.proofs.Binders.{cannot_end}
use Rattle.ur_parse_exp_parts.specs.declared.form.Single.{Single}
use Rattle.ur_parse_exp_parts.specs.declared.form.Single.TheVariants as ones
use Rattle.ur_parse_exp_parts.specs.declared.word.FormWord.TheVariants as words
use Rattle.ur_parse_exp_parts.specs.Words.{Stands, NoForm}
use Rattle.ur_parse_exp_parts.specs.Forms.{WordStands, one_form}
use Rattle.ur_parse_exp_parts.specs.Begins.{begins_post}
use Rattle.ur_parse_exp_parts.proofs.Beginning.{post_begins}
use Rattle.ur_parse_exp_parts.proofs.Begun.{begins_part}

-- ---- an atom, or nothing

plain_chosen : (ts : List Lexeme) → starts (begins_post true) ts ≡ true → choice (of_exp e.head) ts ≡ 0
plain_chosen [] s = false_true s
plain_chosen (t ∷ ts) s = if_true _ (sym (post_begins true (t ∷ ts)) ∙ s)

module _ (n : ℕ) (tokens : List Lexeme) (here : ℕ) where
  pub atom_refused : {r : Refusal} → starts (begins_post true) (drop here tokens) ≡ true → Refused language n (of_exp (e.post true)) (drop here tokens) r → Refused language n (of_exp e.head) (drop here tokens) r
  atom_refused s h = refused_by decided 0 n (omega arith) (plain_chosen (drop here tokens) s) (one_refused h)

  pub atom_read : (end : ℕ) {a : Exp} → Read language n (of_exp (e.post true)) (drop here tokens) (drop end tokens) a → Read language n (of_exp e.head) (drop here tokens) (drop end tokens) a
  atom_read end {a = a} h = reads_by 0 n (omega arith) (record { v = (a, tt); span = no_span; is_span = refl; allowed = refl; builds = refl; fills = an_one h nothing }) h.stops

  pub no_head : {r : Refusal} → NoForm tokens here → starts (begins_post true) (drop here tokens) ≡ false → Says r 5 [] [] → Refused language n (of_exp e.head) (drop here tokens) r
  no_head o s says = let p = o.plain in let q = o.state in let d = o.sql in syntax says (none_of (
    not_one (begins_part (of_exp (e.post true)) refl) (sym (post_begins true (drop here tokens)) ∙ s),
    (
      not_word p.«return»,
      (
        not_word p.«show»,
        (
          not_word p.«not»,
          (
            not_word p.«error»,
            (
              not_word p.«some»,
              (
                not_word q.nextval,
                (
                  not_word q.get_cookie,
                  (
                    not_word q.set_cookie,
                    (not_word d.dml, (not_word d.query_l, (not_word d.one_row, (not_word d.one_or_no_rows, (not_word d.query_x, (not_word p.«fold», tt)))))),
                  ),
                ),
              ),
            ),
          ),
        ),
      ),
    ),
  ))

-- ---- a word and an atom

module _ (n : ℕ) (tokens : List Lexeme) (here : ℕ) where
  pub word_refused : (o : Single) {r : Refusal} → WordStands tokens here o → Refused language n (of_exp (e.post false)) (drop (here + 1) tokens) r → Refused language n (of_exp e.head) (drop here tokens) r
  word_refused ones.Return a h = refused_by decided 1 n (omega arith) (chosen_word_at (choice (of_exp e.head)) a (λ s us. refl)) (word_read a (one_refused h))
  word_refused ones.Show a h = refused_by decided 2 n (omega arith) (chosen_word_at (choice (of_exp e.head)) a (λ s us. refl)) (word_read a (one_refused h))
  word_refused ones.Not a h = refused_by decided 3 n (omega arith) (chosen_word_at (choice (of_exp e.head)) a (λ s us. refl)) (word_read a (one_refused h))
  word_refused ones.Error a h = refused_by decided 4 n (omega arith) (chosen_word_at (choice (of_exp e.head)) a (λ s us. refl)) (word_read a (one_refused h))
  word_refused ones.Some a h = refused_by decided 5 n (omega arith) (chosen_word_at (choice (of_exp e.head)) a (λ s us. refl)) (word_read a (one_refused h))
  word_refused ones.Negative a h = absurd a

  pub word_form : (o : Single) (end : ℕ) {b : Exp} → WordStands tokens here o → Moves tokens here end → Read language n (of_exp (e.post false)) (drop (here + 1) tokens) (drop end tokens) b →
      Read language n (of_exp e.head) (drop here tokens) (drop end tokens) (at (span_of tokens here end) (one_form o b))
  word_form ones.Return end {b = b} a m h = let fl = a_word {n = n} a (an_one h nothing) in
      reads_by 1 n (omega arith) (record { v = (b, tt); span = span_of tokens here end; fills = fl; is_span = covers tokens here end m fl.taken fl.split; allowed = refl; builds = refl }) h.stops
  word_form ones.Show end {b = b} a m h = let fl = a_word {n = n} a (an_one h nothing) in
      reads_by 2 n (omega arith) (record { v = (b, tt); span = span_of tokens here end; fills = fl; is_span = covers tokens here end m fl.taken fl.split; allowed = refl; builds = refl }) h.stops
  word_form ones.Not end {b = b} a m h = let fl = a_word {n = n} a (an_one h nothing) in
      reads_by 3 n (omega arith) (record { v = (b, tt); span = span_of tokens here end; fills = fl; is_span = covers tokens here end m fl.taken fl.split; allowed = refl; builds = refl }) h.stops
  word_form ones.Error end {b = b} a m h = let fl = a_word {n = n} a (an_one h nothing) in
      reads_by 4 n (omega arith) (record { v = (b, tt); span = span_of tokens here end; fills = fl; is_span = covers tokens here end m fl.taken fl.split; allowed = refl; builds = refl }) h.stops
  word_form ones.Some end {b = b} a m h = let fl = a_word {n = n} a (an_one h nothing) in
      reads_by 5 n (omega arith) (record { v = (b, tt); span = span_of tokens here end; fills = fl; is_span = covers tokens here end m fl.taken fl.split; allowed = refl; builds = refl }) h.stops
  word_form ones.Negative end a m h = absurd a

-- ---- `fold [step] first second [row]`

module _ (n : ℕ) {tokens : List Lexeme} {here : ℕ} (a : Stands tokens here words.Fold) where
  fold_chosen : choice (of_exp e.head) (drop here tokens) ≡ 14
  fold_chosen = chosen_word_at (choice (of_exp e.head)) a (λ s us. refl)

  pub fold_open : {r : Refusal} → Unexpected tokens (here + 1) (OfKind (token.Symbol symbol.LBracket)) r → Refused language n (of_exp e.head) (drop here tokens) r
  fold_open u = refused_by decided 14 n (omega arith) fold_chosen (word_read a (no_mark u))

  module _ {i : ℕ} (b : IsAt tokens (here + 1) i (OfKind (token.Symbol symbol.LBracket))) where
    pub fold_step : {r : Refusal} → Refused language n (of_con (c.con places.Plain)) (drop i tokens) r → Refused language n (of_exp e.head) (drop here tokens) r
    fold_step h = refused_by decided 14 n (omega arith) fold_chosen (word_read a (mark_read b (one_refused h)))

    module _ (j : ℕ) {s : Con} (f : Read language n (of_con (c.con places.Plain)) (drop i tokens) (drop j tokens) s) where
      pub fold_closed : {r : Refusal} → Unexpected tokens j (OfKind (token.Symbol symbol.RBracket)) r → Refused language n (of_exp e.head) (drop here tokens) r
      fold_closed u = refused_by decided 14 n (omega arith) fold_chosen (word_read a (mark_read b (one_read decided f (no_mark u))))

      module _ {k : ℕ} (d : IsAt tokens j k (OfKind (token.Symbol symbol.RBracket))) where
        pub fold_first : {r : Refusal} → Refused language n (of_exp (e.post false)) (drop k tokens) r → Refused language n (of_exp e.head) (drop here tokens) r
        fold_first h = refused_by decided 14 n (omega arith) fold_chosen (word_read a (mark_read b (one_read decided f (mark_read d (one_refused h)))))

        module _ (l : ℕ) {x : Exp} (g : Read language n (of_exp (e.post false)) (drop k tokens) (drop l tokens) x) where
          pub fold_second : {r : Refusal} → Refused language n (of_exp (e.post false)) (drop l tokens) r → Refused language n (of_exp e.head) (drop here tokens) r
          fold_second h = refused_by decided 14 n (omega arith) fold_chosen (word_read a (mark_read b (one_read decided f (mark_read d (one_read decided g (one_refused h))))))

          module _ (p : ℕ) {y : Exp} (h : Read language n (of_exp (e.post false)) (drop l tokens) (drop p tokens) y) where
            pub fold_row_open : {r : Refusal} → Unexpected tokens p (OfKind (token.Symbol symbol.LBracket)) r → Refused language n (of_exp e.head) (drop here tokens) r
            fold_row_open u = refused_by decided 14 n (omega arith) fold_chosen (word_read a (mark_read b (one_read decided f (mark_read d (one_read decided g (one_read decided h (no_mark u)))))))

            module _ {q : ℕ} (v : IsAt tokens p q (OfKind (token.Symbol symbol.LBracket))) where
              pub fold_row : {r : Refusal} → Refused language n (of_con (c.con places.Plain)) (drop q tokens) r → Refused language n (of_exp e.head) (drop here tokens) r
              fold_row w = refused_by decided 14 n (omega arith) fold_chosen (word_read a (mark_read b (one_read decided f (mark_read d (one_read decided g (one_read decided h (mark_read v (one_refused w))))))))

              module _ (z : ℕ) {t : Con} (w : Read language n (of_con (c.con places.Plain)) (drop q tokens) (drop z tokens) t) where
                pub fold_row_closed : {r : Refusal} → Unexpected tokens z (OfKind (token.Symbol symbol.RBracket)) r → Refused language n (of_exp e.head) (drop here tokens) r
                fold_row_closed u = refused_by decided 14 n (omega arith) fold_chosen (word_read a (mark_read b (one_read decided f (mark_read d (one_read decided g (one_read decided h (mark_read v (one_read decided w (no_mark u)))))))))

                module _ {end : ℕ} (m : IsAt tokens z end (OfKind (token.Symbol symbol.RBracket))) where
                  pub fold_dotted : {last : ℕ} {r : Refusal} → Says r 5 [] [] → IsAt tokens end last (OfKind (token.Symbol symbol.Dot)) → Refused language n (of_exp e.head) (drop here tokens) r
                  fold_dotted says o = refused_by decided 14 n (omega arith) fold_chosen (word_read a (mark_read b (one_read decided f (mark_read d (one_read decided g (one_read decided h (mark_read v (one_read decided w
                      (mark_read m (cannot_end (dot_class ∷ []) says (starts_at (member (dot_class ∷ [])) o (λ w. refl)) (λ p. p.stops)))))))))))

                  pub fold_read : Moves tokens here end → Other tokens end (OfKind (token.Symbol symbol.Dot)) → Read language n (of_exp e.head) (drop here tokens) (drop end tokens) (at (span_of tokens here end) (form.Fold s x y t))
                  fold_read o u = let fl = a_word {n = n} a (a_mark b (an_one f (a_mark d (an_one g (an_one h (a_mark v (an_one w (a_mark m nothing)))))))) in
                      reads_by 14 n (omega arith) (record { v = (s, (x, (y, (t, tt)))); span = span_of tokens here end; fills = fl; is_span = covers tokens here end o fl.taken fl.split; allowed = refl; builds = refl }) (missing refl u)
