-- The columns of a key, in parentheses or not.
use Rattle.std.specs.Prelude.{◌≡◌, ◌⊎◌, ◌+◌, ℕ, Bool, true, false, if◌then◌else◌, List, [], ◌∷◌, ◌++◌, drop, map, codes, refl}
use Rattle.std.proofs.Common.{◌∙◌, ap, inl, inr, arith, append_assoc}
use Rattle.std.proofs.lemmas.List.{append-nil}
use Rattle.ur_base.specs.declared.refusal.Span.{Span}
use Rattle.ur_base.specs.declared.refusal.Refusal.{Refusal}
use Rattle.ur_lex.specs.declared.token.Symbol.TheVariants as symbol
use Rattle.ur_lex.specs.declared.token.TokenKind.TheVariants as token
use Rattle.ur_lex.specs.declared.token.Lexeme.{Lexeme}
use Rattle.ur_lex.specs.Spelling.{Text}
use Rattle.ur_syntax.specs.declared.decl.Constraint.{Constraint}
use Rattle.ur_parse_rules.specs.Rules.{Read, Refused, no_span, syntax}
use Rattle.ur_parse_rules.specs.Places.{IsAt, IsName, Other, OfKind, Spelled, Passing, Unexpected, span_of, starts}
use Rattle.ur_parse_rules.proofs.Tokens.{covers}
use Rattle.ur_parse_rules.proofs.Steps.{Leads, nothing, a_mark, a_name, an_one, mark_read, name_read, one_read, one_refused, no_mark, no_name, no_word, not_mark, reads_by, refused_by, none_of}
use Rattle.ur_parse_rules.proofs.Choices.{chosen_mark_at, chosen_name_at, chosen_word_at, if_true, if_false}
use Rattle.ur_parse_rules.specs.Classes.{Classes, member, but_class}
use Rattle.ur_parse_rules.specs.Words.{sql_words, is_field}
use Rattle.ur_parse_rules.specs.DeclParts.{key_column, key_columns, more_columns, after_comma, columns_end, more_constraints, constraint_head}
use Rattle.ur_parse_rules.specs.Declarations.{constraints_of, end_of, text_of}
use Rattle.ur_parse_rules.specs.Parts.{of_decl, Named, KeyColumns, MoreColumns, Closed}
use Rattle.ur_parse_rules.specs.Language.{language}
use Rattle.ur_parse_rules.proofs.Choice.{choice}
use Rattle.ur_parse_rules.proofs.AllDecided.{decided}
use Rattle.ur_parse_rules.proofs.Tests.{false_true, or_first, inside}
use Rattle.ur_parse_rules.proofs.Places.{mark_moves, name_moves, ends_empty, missing, contradicted}
use Rattle.ur_parse.specs.Tables.{ColumnsRead, keyed}

-- ---- the rule that is chosen

only_one : (b : Bool) → let z : ℕ = if b then 0 else 0 in z ≡ 0
only_one true = refl
only_one false = refl

second_one : (b : Bool) → let z : ℕ = if b then 1 else 1 in z ≡ 1
second_one true = refl
second_one false = refl

single_column : (ts : List Lexeme) → choice (of_decl key_column) ts ≡ 0
single_column [] = refl
single_column (t ∷ ts) = only_one _

pub single_head : (ts : List Lexeme) → choice (of_decl constraint_head) ts ≡ 0
single_head [] = refl
single_head (t ∷ ts) = only_one _

-- what a column begins with
abbrev column_starts : Classes
column_starts = but_class token.Upper (codes "CONSTRAINT" ∷ []) ∷ []

field_first : (w : Text) → is_field w ≡ true → member column_starts token.Upper w ≡ true
field_first w p = inside (but_class token.Upper sql_words ∷ []) column_starts token.Upper w refl (or_first (is_field w) false p)

a_column : (ts : List Lexeme) → starts (member column_starts) ts ≡ true → choice (of_decl key_columns) ts ≡ 0
a_column [] e = false_true e
a_column (t ∷ ts) e = if_true _ e

no_column : (ts : List Lexeme) → starts (member column_starts) ts ≡ false → choice (of_decl key_columns) ts ≡ 1
no_column [] e = refl
no_column (t ∷ ts) e = if_false 0 e ∙ second_one _

column_behind : (ts : List Lexeme) → starts (member column_starts) ts ≡ true → choice (of_decl after_comma) ts ≡ 0
column_behind [] e = false_true e
column_behind (t ∷ ts) e = if_true _ e

no_column_behind : (ts : List Lexeme) → starts (member column_starts) ts ≡ false → choice (of_decl after_comma) ts ≡ 1
no_column_behind [] e = refl
no_column_behind (t ∷ ts) e = if_false 0 e ∙ second_one _

-- ---- one column

abbrev column : List Lexeme → ℕ → ℕ → Text → Named
column tokens at end x = record { span = span_of tokens at end; text = x }

module _ {n : ℕ} {tokens : List Lexeme} {at : ℕ} where
  column_read : {end : ℕ} {x : Text} → IsName tokens at end token.Upper is_field x → Read language n (of_decl key_column) (drop at tokens) (drop end tokens) (column tokens at end x)
  column_read {end = end} {x = x} a = let fl = a_name {n = n} a nothing in
      reads_by 0 n (omega arith) (record { v = (x, tt); span = span_of tokens at end; fills = fl; is_span = covers tokens at end (name_moves a) fl.taken fl.split; allowed = refl; builds = refl }) (ends_empty _)

  column_refused : {r : Refusal} → Unexpected tokens at (Passing token.Upper is_field) r → Refused language n (of_decl key_column) (drop at tokens) r
  column_refused u = refused_by decided 0 n (omega arith) (single_column (drop at tokens)) (no_name u)

  pub head_missing : {r : Refusal} → Unexpected tokens at (Spelled token.Upper (codes "CONSTRAINT")) r → Refused language n (of_decl constraint_head) (drop at tokens) r
  head_missing u = refused_by decided 0 n (omega arith) (single_head (drop at tokens)) (no_word u)

-- ---- `A, B`

-- the span where columns end that stand behind one of this span
abbrev last_of : Span → List Named → Span
last_of s [] = s
last_of s (b ∷ bs) = last_of b.span bs

end_is : (a : Named) (bs : List Named) → last_of a.span bs ≡ end_of a bs
end_is a [] = refl
end_is a (b ∷ bs) = end_is b bs

-- the columns so far with those behind them
abbrev joined : List Text → Span → MoreColumns → KeyColumns
joined names last m = keyed (names ++ map text_of m.columns) (last_of last m.columns) m.constraints

-- what stands behind the columns so far goes on with them
pub record ListRead (n : ℕ) (tokens : List Lexeme) (at end : ℕ) (names : List Text) (last : Span) : Type 0 where
  pub leads : Leads language n (of_decl key_columns) (of_decl more_columns) (drop at tokens) (drop end tokens) (joined names last)

module _ {n : ℕ} {tokens : List Lexeme} {at : ℕ} where
  pub list_missing : {r : Refusal} → Other tokens at (OfKind (token.Symbol symbol.LParen)) → Unexpected tokens at (Passing token.Upper is_field) r → Refused language n (of_decl key_columns) (drop at tokens) r
  list_missing {r = r} o u = by (starts (member column_starts) (drop at tokens)) refl where
    by : (b : Bool) → starts (member column_starts) (drop at tokens) ≡ b → Refused language n (of_decl key_columns) (drop at tokens) r
    by true e = refused_by decided 0 n (omega arith) (a_column (drop at tokens) e) (one_refused (column_refused u))
    by false e = refused_by decided 1 n (omega arith) (no_column (drop at tokens) e) (no_mark (record { says = u.says; other = o }))

  pub list_first : {end : ℕ} {x : Text} → IsName tokens at end token.Upper is_field x → ListRead n tokens at end (x ∷ []) (span_of tokens at end)
  list_first {end = end} {x = x} a = record {
    leads = record {
      found = λ rest m r. reads_by 0 n (omega arith) (record {
        v = (column tokens at end x, (m, tt));
        span = no_span;
        is_span = refl;
        allowed = refl;
        builds = ap (λ z. keyed (x ∷ map text_of m.columns) z m.constraints) (end_is (column tokens at end x) m.columns);
        fills = an_one (column_read a) (an_one r nothing);
      }) r.stops;
      refused = λ ref h. refused_by decided 0 n (omega arith) (chosen_name_at (choice (of_decl key_columns)) a (λ w s us p. if_true _ (field_first w p))) (one_read decided (column_read a) (one_refused h));
    };
  }

  module _ {end : ℕ} {names : List Text} {last : Span} (l : ListRead n tokens at end names last) where
    pub list_refused : {next : ℕ} {r : Refusal} → IsAt tokens end next (OfKind (token.Symbol symbol.Comma)) → Other tokens next (Spelled token.Upper (codes "CONSTRAINT")) → Unexpected tokens next (Passing token.Upper is_field) r →
        Refused language n (of_decl key_columns) (drop at tokens) r
    list_refused {next = next} {r = r} c o u = l.leads.refused r (refused_by decided 1 n (omega arith) (chosen_mark_at (choice (of_decl more_columns)) c (λ w s us. refl)) (mark_read c (one_refused (by (starts (member column_starts) (drop next tokens)) refl)))) where
      by : (b : Bool) → starts (member column_starts) (drop next tokens) ≡ b → Refused language n (of_decl after_comma) (drop next tokens) r
      by true e = refused_by decided 0 n (omega arith) (column_behind (drop next tokens) e) (one_refused (column_refused u))
      by false e = refused_by decided 1 n (omega arith) (no_column_behind (drop next tokens) e) (one_refused (head_missing (record { says = u.says; other = o })))

    pub list_more : {next stop : ℕ} {y : Text} → IsAt tokens end next (OfKind (token.Symbol symbol.Comma)) → IsName tokens next stop token.Upper is_field y → ListRead n tokens at stop (names ++ y ∷ []) (span_of tokens next stop)
    list_more {next = next} {stop = stop} {y = y} c a = record {
      leads = record {
        found = λ rest m r. let col : Named = record { span = span_of tokens next stop; text = y } in let more : MoreColumns = record { columns = col ∷ m.columns; constraints = m.constraints } in
            let inner : Read language n (of_decl after_comma) (drop next tokens) rest more =
            reads_by 0 n (omega arith) (record { v = (col, (m, tt)); span = no_span; is_span = refl; allowed = refl; builds = refl; fills = an_one (column_read a) (an_one r nothing) }) r.stops in
            let outer : Read language n (of_decl more_columns) (drop end tokens) rest more =
            reads_by 1 n (omega arith) (record { v = (more, tt); span = no_span; is_span = refl; allowed = refl; builds = refl; fills = a_mark c (an_one inner nothing) }) r.stops in
            rw (append_assoc names (y ∷ []) (map text_of m.columns)) (l.leads.found rest more outer);
        refused = λ ref h. l.leads.refused ref (refused_by decided 1 n (omega arith) (chosen_mark_at (choice (of_decl more_columns)) c (λ w s us. refl))
            (mark_read c (one_refused (refused_by decided 0 n (omega arith) (chosen_name_at (choice (of_decl after_comma)) a (λ w s us p. if_true _ (field_first w p))) (one_read decided (column_read a) (one_refused h))))));
      };
    }

    module _ (w : Other tokens end (OfKind (token.Symbol symbol.Comma)) ⊎ IsAt tokens (end + 1) (end + 1 + 1) (Spelled token.Upper (codes "CONSTRAINT"))) where
      constraint_chosen : {k : ℕ} → IsAt tokens end k (OfKind (token.Symbol symbol.Comma)) → choice (of_decl after_comma) (drop k tokens) ≡ 1
      constraint_chosen {k = k} a = elim w [ inl o ↦ contradicted a o | inr s ↦ (let e = a.next in rw e (chosen_word_at (choice (of_decl after_comma)) s (λ u us. refl))) ]

      pub list_done : ColumnsRead n tokens at end names last []
      list_done = record {
        alone = λ o. rw append-nil at (l.leads.found (drop end tokens) (record { columns = []; constraints = [] })
            (reads_by 0 n (omega arith) (record { v = tt; span = no_span; is_span = refl; allowed = refl; builds = refl; fills = nothing }) (missing refl o)));
        followed = λ k e m h c a r s. let more : MoreColumns = record { columns = []; constraints = constraints_of h c } in
            let inner : Read language n (of_decl after_comma) (drop k tokens) (drop m tokens) more =
            reads_by 1 n (omega arith) (record { v = (h, (c, tt)); span = no_span; is_span = refl; allowed = refl; builds = refl; fills = an_one r (an_one s nothing) }) s.stops in
            let outer : Read language n (of_decl more_columns) (drop end tokens) (drop m tokens) more =
            reads_by 1 n (omega arith) (record { v = (more, tt); span = no_span; is_span = refl; allowed = refl; builds = refl; fills = a_mark a (an_one inner nothing) }) s.stops in
            rw append-nil at (l.leads.found (drop m tokens) more outer);
        headless = λ k r a h. l.leads.refused r (refused_by decided 1 n (omega arith) (chosen_mark_at (choice (of_decl more_columns)) a (λ w s us. refl))
            (mark_read a (one_refused (refused_by decided 1 n (omega arith) (constraint_chosen a) (one_refused h)))));
        empty = λ k e h r a s g. l.leads.refused r (refused_by decided 1 n (omega arith) (chosen_mark_at (choice (of_decl more_columns)) a (λ w s us. refl))
            (mark_read a (one_refused (refused_by decided 1 n (omega arith) (constraint_chosen a) (one_read decided s (one_refused g))))));
      }

-- ---- `(A, B)`

-- what stands behind the columns so far goes on with them, up to the end of the parenthesis
pub record Enclosed (n : ℕ) (tokens : List Lexeme) (at end : ℕ) (names : List Text) : Type 0 where
  pub found : (mid rest : List Lexeme) (c : Closed) (cs : List Constraint) → Read language n (of_decl columns_end) (drop end tokens) mid c → Read language n (of_decl more_constraints) mid rest cs →
      Read language n (of_decl key_columns) (drop at tokens) rest (keyed (names ++ c.columns) c.end cs)
  pub refused : (r : Refusal) → Refused language n (of_decl columns_end) (drop end tokens) r → Refused language n (of_decl key_columns) (drop at tokens) r
  pub behind : (mid : List Lexeme) (c : Closed) (r : Refusal) → Read language n (of_decl columns_end) (drop end tokens) mid c → Refused language n (of_decl more_constraints) mid r → Refused language n (of_decl key_columns) (drop at tokens) r

module _ {n : ℕ} {tokens : List Lexeme} {at : ℕ} where
  module _ {next : ℕ} (a : IsAt tokens at next (OfKind (token.Symbol symbol.LParen))) where
    pub enclosed_missing : {r : Refusal} → Unexpected tokens next (Passing token.Upper is_field) r → Refused language n (of_decl key_columns) (drop at tokens) r
    enclosed_missing u = refused_by decided 1 n (omega arith) (chosen_mark_at (choice (of_decl key_columns)) a (λ w s us. refl)) (mark_read a (no_name u))

    pub enclosed_first : {end : ℕ} {x : Text} → IsName tokens next end token.Upper is_field x → Enclosed n tokens at end (x ∷ [])
    enclosed_first {x = x} b = record {
      found = λ mid rest c cs r s. reads_by 1 n (omega arith) (record { v = (x, (c, (cs, tt))); span = no_span; is_span = refl; allowed = refl; builds = refl; fills = a_mark a (a_name b (an_one r (an_one s nothing))) }) s.stops;
      refused = λ r h. refused_by decided 1 n (omega arith) (chosen_mark_at (choice (of_decl key_columns)) a (λ w s us. refl)) (mark_read a (name_read b (one_refused h)));
      behind = λ mid c r h g. refused_by decided 1 n (omega arith) (chosen_mark_at (choice (of_decl key_columns)) a (λ w s us. refl)) (mark_read a (name_read b (one_read decided h (one_refused g))));
    }

  module _ {end : ℕ} {names : List Text} (l : Enclosed n tokens at end names) where
    pub enclosed_refused : {next : ℕ} {r : Refusal} → IsAt tokens end next (OfKind (token.Symbol symbol.Comma)) → Unexpected tokens next (Passing token.Upper is_field) r → Refused language n (of_decl key_columns) (drop at tokens) r
    enclosed_refused {r = r} c u = l.refused r (refused_by decided 1 n (omega arith) (chosen_mark_at (choice (of_decl columns_end)) c (λ w s us. refl)) (mark_read c (no_name u)))

    pub enclosed_open : {r : Refusal} → Other tokens end (OfKind (token.Symbol symbol.Comma)) → Unexpected tokens end (OfKind (token.Symbol symbol.RParen)) r → Refused language n (of_decl key_columns) (drop at tokens) r
    enclosed_open {r = r} o u = l.refused r (syntax u.says (none_of (not_mark u.other, (not_mark o, tt))))

    pub enclosed_more : {next stop : ℕ} {y : Text} → IsAt tokens end next (OfKind (token.Symbol symbol.Comma)) → IsName tokens next stop token.Upper is_field y → Enclosed n tokens at stop (names ++ y ∷ [])
    enclosed_more {stop = stop} {y = y} c a = let more : (k : Closed) → Closed = (λ k. record { columns = y ∷ k.columns; end = k.end }) in
        let next : (mid : List Lexeme) (k : Closed) → Read language n (of_decl columns_end) (drop stop tokens) mid k → Read language n (of_decl columns_end) (drop end tokens) mid (more k) =
        (λ mid k r. reads_by 1 n (omega arith) (record { v = (y, (k, tt)); span = no_span; is_span = refl; allowed = refl; builds = refl; fills = a_mark c (a_name a (an_one r nothing)) }) (ends_empty _)) in record {
          found = λ mid rest k cs r s. rw (append_assoc names (y ∷ []) k.columns) (l.found mid rest (more k) cs (next mid k r) s);
          refused = λ r h. l.refused r (refused_by decided 1 n (omega arith) (chosen_mark_at (choice (of_decl columns_end)) c (λ w s us. refl)) (mark_read c (name_read a (one_refused h))));
          behind = λ mid k r h g. l.behind mid (more k) r (next mid k h) g;
        }

    pub enclosed_done : {close : ℕ} → IsAt tokens end close (OfKind (token.Symbol symbol.RParen)) → ColumnsRead n tokens at close names (span_of tokens end close) []
    enclosed_done {close = close} b = let fl = a_mark {n = n} b nothing in let last : Closed = record { columns = []; end = span_of tokens end close } in
        let closed : Read language n (of_decl columns_end) (drop end tokens) (drop close tokens) last =
        reads_by 0 n (omega arith) (record { v = tt; span = span_of tokens end close; fills = fl; is_span = covers tokens end close (mark_moves b) fl.taken fl.split; allowed = refl; builds = refl }) (ends_empty _) in record {
          alone = λ o. rw append-nil at (l.found (drop close tokens) (drop close tokens) last [] closed (reads_by 0 n (omega arith) (record { v = tt; span = no_span; is_span = refl; allowed = refl; builds = refl; fills = nothing }) (missing refl o)));
          followed = λ k e m h c a r s. rw append-nil at (l.found (drop close tokens) (drop m tokens) last (constraints_of h c) closed
              (reads_by 1 n (omega arith) (record { v = (h, (c, tt)); span = no_span; is_span = refl; allowed = refl; builds = refl; fills = a_mark a (an_one r (an_one s nothing)) }) s.stops));
          headless = λ k r a h. l.behind (drop close tokens) last r closed (refused_by decided 1 n (omega arith) (chosen_mark_at (choice (of_decl more_constraints)) a (λ w s us. refl)) (mark_read a (one_refused h)));
          empty = λ k e h r a s g. l.behind (drop close tokens) last r closed (refused_by decided 1 n (omega arith) (chosen_mark_at (choice (of_decl more_constraints)) a (λ w s us. refl)) (mark_read a (one_read decided s (one_refused g))));
        }
